-- The texts that a table names: document 01, "Refusal numbers" ("a text out of bounds, untrimmed, with a byte not allowed, or with `##` right after a line feed").
-- Assumes nothing.
use Rattle.std.specs.Prelude.{ℕ, Bool, false, ◌&&◌, [], ◌∷◌, eqb}
use Rattle.lists.specs.Lists.{all}
use Rattle.format.specs.Bytes.{Bytes, allowed, is_label, unlabelled}
use Rattle.format.specs.Reading.{Span}

abbrev pub span : (place size : ℕ) → Span
span p n = record { place = p; size = n }

-- the bytes start with a line feed and "`##` right after" it
abbrev pub label_after : Bytes → Bool
label_after [] = false
label_after (b ∷ s) = eqb b 10 && is_label s

-- each byte is allowed, and no line but the first is a label line
abbrev pub plain_text : Bytes → Bool
plain_text s = all allowed s && unlabelled s
