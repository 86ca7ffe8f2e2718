-- A number names one refusal. Serves document 01, "Refusal numbers". Assumes nothing.
use Prim.Native.Nat.{ℕ}
use mathlib.Core.Path.{◌≡◌, refl, sym, ap, ◌∙◌}
use mathlib.Core.List.{List, [], ◌∷◌, ◌++◌}
use lib.ListN.{get_or, replicate}
use Rattle.format.specs.Refusals.{number_of}
use Rattle.format.specs.declared.refusal.Refusal.{Refusal}
use Rattle.format.specs.declared.refusal.Refused.{Refused}
use Rattle.format.specs.declared.refusal.Refusal.TheVariants.{Unlent, ShortTable, LongBlock, ForbiddenByte, NoTitle, NoEquals, LabelOrder, Version, Missing, Shape, Range, AtomNumber, Symbol, Clash, Full, Totals, NoEnd, BehindEnd, Unsound, ShortBuffer, LongForm, LongFile, BeyondFile, PartGeometry, AboveGreatest}

-- the refusals by their numbers; those that no refusal has are filled
abbrev by_number : List Refusal
by_number =
    (Unlent ∷ ShortTable ∷ LongBlock ∷ ForbiddenByte ∷ NoTitle ∷ NoEquals ∷ LabelOrder ∷ Version ∷ Missing ∷ Shape ∷ Range ∷ AtomNumber ∷ Symbol ∷ Clash ∷ Full ∷ Totals ∷ NoEnd ∷ BehindEnd ∷ [])
    ++ (replicate 3 Unlent
    ++ ((Unsound ∷ ShortBuffer ∷ LongForm ∷ [])
    ++ (replicate 7 Unlent
    ++ ((LongFile ∷ BeyondFile ∷ []) ++ (replicate 8 Unlent ++ (PartGeometry ∷ AboveGreatest ∷ []))))))

abbrev refusal_of : ℕ → Refusal
refusal_of n = get_or by_number n Unlent

back : (e : Refusal) → refusal_of (number_of e) ≡ e
back Unlent = refl
back ShortTable = refl
back LongBlock = refl
back ForbiddenByte = refl
back NoTitle = refl
back NoEquals = refl
back LabelOrder = refl
back Version = refl
back Missing = refl
back Shape = refl
back Range = refl
back AtomNumber = refl
back Symbol = refl
back Clash = refl
back Full = refl
back Totals = refl
back NoEnd = refl
back BehindEnd = refl
back Unsound = refl
back ShortBuffer = refl
back LongForm = refl
back LongFile = refl
back BeyondFile = refl
back PartGeometry = refl
back AboveGreatest = refl

pub number_once : (e f : Refusal) → number_of e ≡ number_of f → e ≡ f
number_once e f h = sym (back e) ∙ ap refusal_of h ∙ back f

abbrev told : Refusal → (place : ℕ) → Refused
told r p = record { refusal = r; place = p }

pub refused_once : (e f : Refused) → number_of e.refusal ≡ number_of f.refusal → e.place ≡ f.place → e ≡ f
refused_once e f h k = ap (λ (r : Refusal). told r e.place) (number_once e.refusal f.refusal h) ∙ ap (told f.refusal) k
