-- `printing::Sheet::digits` ends: each call of itself has one digit less to go. Assumes nothing.
use Rattle.printing.proofs.Sheet.+digits.Given as goal

abbrev pub decreases-digits : goal.decreases-digits
decreases-digits l = l.most
