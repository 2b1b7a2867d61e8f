-- Laws of lines: a line as its first field and the line of the others, with their lengths.
-- From the laws of decimals.
use mathlib.Core.Path.{◌≡◌, sym, ◌∙◌, ap}
use mathlib.Core.List.{List, [], ◌∷◌, ◌++◌, append_assoc}
use Prim.Native.Nat.{ℕ, ◌+◌, ◌≤◌, ◌<◌}
use native.Mathlib.Decide.{dec_le}
use native.Mathlib.Numerals.{add-one}
use native.Mathlib.Omega.{arith}
use lib.ListN.{length, drop, get_or, length-append, length-drop, drop_of_length-le}
use lib.Seq.{drop-cons}
use Rattle.model.specs.Text.{comma, newline, decimal, line_text}

field-length : (v end : ℕ) → length (decimal v ++ (end ∷ [])) ≡ length (decimal v) + 1
field-length v end = length-append (decimal v) (end ∷ [])

line_text-front : (n : ℕ) (ns : List ℕ) → 0 < length ns → line_text (n ∷ ns) ≡ (decimal n ++ (comma ∷ [])) ++ line_text ns
line_text-front n [] h = absurd (omega arith)
line_text-front n (k ∷ ks) h = sym (append_assoc (decimal n) (comma ∷ []) (line_text (k ∷ ks)))

-- a tuple's line: its relation, its index, and the line of its values
pub line_text-tuple : (r x : ℕ) (values : List ℕ) → 0 < length values → line_text (r ∷ x ∷ values) ≡ (decimal r ++ (comma ∷ [])) ++ ((decimal x ++ (comma ∷ [])) ++ line_text values)
line_text-tuple r x values h = line_text-front r (x ∷ values) (omega arith) ∙ ap (λ (t : List ℕ). (decimal r ++ (comma ∷ [])) ++ t) (line_text-front x values h)

module _ (fields : List ℕ) (i : ℕ) where
  at_front : i < length fields → drop i fields ≡ get_or fields i 0 ∷ drop (i + 1) fields
  at_front h = rw add-one (drop-cons fields i 0 h)

  -- the fields from one that is not the last
  pub line_text-drop : i + 1 < length fields → line_text (drop i fields) ≡ (decimal (get_or fields i 0) ++ (comma ∷ [])) ++ line_text (drop (i + 1) fields)
  line_text-drop h = ap line_text (at_front (omega arith)) ∙ line_text-front (get_or fields i 0) (drop (i + 1) fields) (omega (arith, length-drop (i + 1) fields))

  -- the last field
  pub line_text-last : i + 1 ≡ length fields → line_text (drop i fields) ≡ decimal (get_or fields i 0) ++ (newline ∷ [])
  line_text-last h = ap line_text (at_front (omega arith) ∙ ap (λ (t : List ℕ). get_or fields i 0 ∷ t) (drop_of_length-le fields {i = i + 1} (omega arith)))

  -- a field and the byte behind it are part of the line
  pub field_fits : i < length fields → length (decimal (get_or fields i 0)) < length (line_text (drop i fields))
  field_fits h = go (dec_le (length fields) (i + 1))
    where
      go : Dec (length fields ≤ i + 1) → length (decimal (get_or fields i 0)) < length (line_text (drop i fields))
      go (yes l) = omega (arith, ap length (line_text-last (omega arith)), field-length (get_or fields i 0) newline)
      go (no n) =
          let v = decimal (get_or fields i 0) ++ (comma ∷ []) in
          omega (arith, ap length (line_text-drop (omega (arith, n))), length-append v (line_text (drop (i + 1) fields)), field-length (get_or fields i 0) comma)
