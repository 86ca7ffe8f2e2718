-- Every definition, open: a theorem by computation says `unfolding computing`. Proves nothing and is used nowhere else.
use Prim.Native.Nat.{ℕ}
use lib.Ieee.{div, of_int, round}
use Rattle.lists.specs.Lists.{all, any, same_by, pairs, span, concat, filled, flat, rows_from, count_up}
use Rattle.lists.specs.Order.{lex_before, insert, sort, ascends}
use Rattle.format.specs.Bytes.{bytes, within, blank, gap, allowed, cons_to, cut, line_len, whole_from, fields, strip, lead, keep, trim_end, trim, unlabelled}
use Rattle.format.specs.Labels.{parts, raise, normal, label, known, lookup, misplaced, line_of, title_line, end_line}
use Rattle.format.specs.Rows.{number_from, digits_of, number, natural, negative, signed, lettered, massed, symbol, group, place_in, numbers, first_numbers, atom_shape, marked, spread, row_shape}
use Rattle.format.specs.Formula.{part, leave, count_or, fstep, frun, formula_shape}
use Rattle.format.specs.Coordinates.{xyz_shape, factor_shape, exceeds, coordinate, position_in, position_table}
use Rattle.format.specs.Structure.{symbols, place_of, isotope, unknown, mass_ok, rows_of, lists, most, arity, ranging, ranged, overlap, meets, repeats, clash, entries_of, same_isotope, total, kinds, agree, atom_ok, group_ok, row_ok, rows_ok, well_formed, handed_twice, lowest, group_of, groups}
use Rattle.format.specs.Reading.{with_rows, atom_turn, join_turn, row_turn, formula_turn, version_turn, id_turn, atom_line, row_line, lacks, end_turn, value_turn, blank_or, further_turn, line_turn, line_step, read_lines, start, finished, span_of, read_block, greatest_turn, factor_turn, xyz_turn, xyz_line, xyz_value, xyz_further, partly, yes_turn, yes_line}
use Rattle.format.specs.Table.{zeros, base, width, row_place, atom_place, text_place, row_with, atom_cells, row_cells, rows_part, counts, derived, encode, count_at, members_at, spread_at, atom_records, decode, spans_of, sound_numbers, text_fine, text_at, text_ok, sound, read_result, noughts, short, cleared, ample}
use Rattle.format.specs.Writing.{digits_in, digits, spelt, print_sym, behind, line, atom_words, print_atoms, row_words, rank, formula_before, formula_of, print_entry, print_fragment, print_fragments, valued, print_record, print_rows, records, canonical, form_of, write_result, fragments}
use Rattle.format.specs.Walking.{run, pieces, walk_at, answered, answers, until_label, name_of, check_of}

unfoldable pub computing : ℕ
unfolding all any same_by pairs span concat filled flat rows_from lex_before insert sort ascends bytes within blank gap allowed cons_to cut line_len whole_from fields strip lead keep trim_end trim unlabelled parts raise normal label known lookup misplaced line_of title_line end_line number_from digits_of number natural negative signed lettered massed symbol group place_in numbers first_numbers atom_shape marked spread row_shape part leave count_or fstep frun formula_shape symbols place_of isotope unknown mass_ok rows_of lists most arity ranging ranged overlap meets repeats clash entries_of same_isotope total kinds agree atom_ok group_ok row_ok rows_ok well_formed with_rows atom_turn join_turn row_turn formula_turn version_turn id_turn atom_line row_line lacks end_turn value_turn blank_or further_turn line_turn line_step read_lines start finished span_of read_block zeros base width row_place atom_place text_place row_with atom_cells row_cells rows_part counts derived encode count_at members_at spread_at atom_records decode spans_of sound_numbers text_fine text_at text_ok sound read_result digits_in digits spelt print_sym behind line atom_words print_atoms row_words rank formula_before formula_of print_entry print_fragment print_fragments valued print_record print_rows records canonical form_of write_result run pieces walk_at answered answers until_label name_of check_of count_up div of_int round xyz_shape factor_shape exceeds coordinate position_in position_table greatest_turn factor_turn xyz_turn xyz_line xyz_value xyz_further partly noughts short cleared ample handed_twice yes_turn yes_line lowest group_of groups fragments
computing = 0
