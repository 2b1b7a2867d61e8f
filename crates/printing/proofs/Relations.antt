-- The lines of tuples, relation by relation: a relation's lines before those of the later ones, and each tuple's line by the numbers
-- that the starts give.
-- From the laws of sound starts, of ids, and of the lines of a range of ids.
use mathlib.Core.Path.{◌≡◌, sym, ◌∙◌, ap, ap₂}
use mathlib.Core.List.{List, [], ◌∷◌, ◌++◌, map}
use Prim.Native.Nat.{ℕ, suc, ◌+◌, ◌-◌, ◌*◌, ◌≤◌, ◌<◌}
use native.Mathlib.Nat.{sub-zero, mul-le-mul_left, mul_comm, mul-suc}
use native.Mathlib.Omega.{arith}
use borrow.Author.Tests.{leb-true}
use lib.Dec.{leb}
use lib.ListN.{length, take, drop}
use Rattle.model.specs.Limits.{max_relations, max_width}
use Rattle.model.specs.Lists.{from, select}
use Rattle.model.specs.Network.{Network, no_relation, width, size, total, tuples_in, values_in, before, first_id, tuple_of, values_at}
use Rattle.model.specs.LiveWords.{is_live}
use Rattle.model.specs.Fault.{proper_width}
use Rattle.model.specs.Text.{text_of}
use Rattle.model.specs.Listing.{tuple_line, tuple_lines}
use Rattle.model.proofs.Bools.{and_left}
use Rattle.model.proofs.Lists.{all_get_d}
use Rattle.model.proofs.Network.{relation_of-at, index_of-at, before-past, before-within}
use Rattle.layout.specs.Starts.{tuple_start, value_start, relation_count, records_in}
use Rattle.layout.specs.Places.{width_in}
use Rattle.layout.proofs.SoundStarts.{relations-few, relation-count, tuple-start, tuple-end, tuple-count, value-start, width-in, columns-few, ids-rise, ids-inside}
use Rattle.printing.specs.Lines.{text_over, rows, relation_text, Printable}
use Rattle.printing.proofs.Over.{over-parts, over_none}

-- the lines of the tuples from relation r on
abbrev pub lines_from : List ℕ → List ℕ → List ℕ → ℕ → List ℕ
lines_from starts values words r =
    text_over (tuple_line (rows starts values)) (is_live words) (tuple_start starts r) (tuple_start starts max_relations)

module _ {starts values words : List ℕ} (p : Printable starts values words) where
  abbrev N : Network
  N = rows starts values

  pub lines_from-all : lines_from starts values words 0 ≡ text_of (tuple_lines N words)
  unfolding text_over tuple_lines
  lines_from-all =
      ap₂ (λ (a b : ℕ). text_of (map (tuple_line N) (select (is_live words) (from a (b - a))))) (tuple-start p.framed 0 (omega arith)) (tuple-count p.framed)
      ∙ ap (λ (n : ℕ). text_of (map (tuple_line N) (select (is_live words) (from 0 n)))) (sub-zero (total N))

  -- past the last relation there are none
  pub lines_from-none : (r : ℕ) → r ≡ relation_count starts → lines_from starts values words r ≡ []
  lines_from-none r h =
      let c = relation-count p.framed in
      let e = tuple-start p.framed r (omega (arith, c, relations-few p.framed)) in
      let a = before-past tuples_in (records_in starts) r (omega (arith, c)) in
      let t = tuple-count p.framed in
      over_none (tuple_line N) (is_live words) (tuple_start starts r) (tuple_start starts max_relations) (omega arith) (λ g low high. absurd (omega arith))

  module _ (r : ℕ) (h : r < relation_count starts) where
    exists : r < length (records_in starts)
    exists = omega (arith, relation-count p.framed)

    pub few : r < max_relations
    few = omega (arith, exists, relations-few p.framed)

    -- its lines, and then those of the later relations
    pub lines_from-next : lines_from starts values words r ≡ relation_text starts values words r ++ lines_from starts values words (r + 1)
    lines_from-next =
        over-parts (tuple_line N) (is_live words) (tuple_start starts r) (tuple_start starts (r + 1)) (tuple_start starts max_relations) (ids-rise p.framed r few) (ids-inside p.framed r few)

    pub width-bounds : (1 ≤ width_in starts r) × (width_in starts r ≤ max_width)
    width-bounds =
        let w = all_get_d proper_width (records_in starts) r no_relation p.framed.bounded.widths exists in
        let e = width-in p.framed r few in
        (omega (arith, leb-true 1 (width N r) (and_left (leb 1 (width N r)) (leb (width N r) max_width) w)), omega (arith, columns-few p.framed r few))

    -- ---- One of its tuples, by the numbers read

    module _ (start end first wide : ℕ) (es : start ≡ tuple_start starts r) (ee : end ≡ tuple_start starts (r + 1)) (ef : first ≡ value_start starts r) (ew : wide ≡ width_in starts r) (g : ℕ) (low : start ≤ g) (high : g < end) where
      indexed : g - start < size N r
      indexed = omega (arith, tuple-start p.framed r (omega (arith, few)), tuple-end p.framed r few)

      is-width : wide ≡ width N r
      is-width = ew ∙ width-in p.framed r few

      is-first : first ≡ before values_in (records_in starts) r
      is-first = ef ∙ value-start p.framed r (omega (arith, few))

      pub tuple-inside : first + (g - start) * wide + wide ≤ length values
      tuple-inside =
          let l = before-within values_in (records_in starts) r exists in
          let m : width N r * suc (g - start) ≤ width N r * size N r = mul-le-mul_left (width N r) indexed in
          let t = value-start p.framed max_relations (omega arith) ∙ before-past values_in (records_in starts) max_relations (relations-few p.framed) in
          rw (is-first, is-width) (omega (arith, mul-suc (width N r) (g - start), mul_comm (width N r) (g - start), p.all-values))

      pub tuple-line-is : r ∷ (g - start) ∷ take wide (drop (first + (g - start) * wide) values) ≡ tuple_line N g
      unfolding tuple_of values_at
      tuple-line-is =
          let x = g - start in
          let back : first_id N r + x ≡ g = omega (arith, tuple-start p.framed r (omega (arith, few))) in
          ap₂ (λ (a w : ℕ). r ∷ x ∷ take w (drop (a + x * w) values)) is-first is-width
          ∙ sym (ap (tuple_line N) (sym back) ∙ ap₂ (λ (s y : ℕ). s ∷ y ∷ values_at N s y) (relation_of-at N r x indexed) (index_of-at N r x indexed))
