-- Laws of the lines of the ids in a range that pass a test: a range in two parts, and a range from an id that passes.
-- From the laws of ranges, of tests on lists, and of texts.
use mathlib.Core.Path.{◌≡◌, sym, ◌∙◌, ap}
use mathlib.Core.Bool.{Bool, true, false}
use mathlib.Core.List.{List, [], ◌++◌, map, map-append}
use Prim.Native.Nat.{ℕ, ◌+◌, ◌-◌, ◌≤◌, ◌<◌}
use native.Mathlib.Omega.{arith}
use Rattle.model.specs.Lists.{from, select, keep_if}
use Rattle.model.specs.Text.{line_text, text_of}
use Rattle.model.proofs.Bools.{not-both}
use Rattle.model.proofs.Lists.{First, from-append, from_cons, from-mem, select-append, select-none}
use Rattle.printing.specs.Lines.{text_over}
use Rattle.model.proofs.Text.{text_of-cons, text_of-append}

module _ (line : ℕ → List ℕ) (p : ℕ → Bool) where
  -- two ranges, one behind the other
  pub over-parts : (a b end : ℕ) → a ≤ b → b ≤ end → text_over line p a end ≡ text_over line p a b ++ text_over line p b end
  unfolding text_over
  over-parts a b end h k =
      let e : end - a ≡ (b - a) + (end - b) = omega arith in
      let f : a + (b - a) ≡ b = omega arith in
      ap (λ (l : ℕ). text_of (map line (select p (from a l)))) e
      ∙ ap (λ (gs : List ℕ). text_of (map line (select p gs))) (from-append a (b - a) (end - b) ∙ ap (λ (i : ℕ). from a (b - a) ++ from i (end - b)) f)
      ∙ ap (λ (gs : List ℕ). text_of (map line gs)) (select-append p (from a (b - a)) (from b (end - b)))
      ∙ ap text_of (map-append line (select p (from a (b - a))) (select p (from b (end - b))))
      ∙ text_of-append (map line (select p (from a (b - a)))) (map line (select p (from b (end - b))))

  pub over_none : (a end : ℕ) → a ≤ end → ((g : ℕ) → a ≤ g → g < end → p g ≡ false) → text_over line p a end ≡ []
  unfolding text_over text_of
  over_none a end k h =
      ap (λ (gs : List ℕ). text_of (map line gs))
      (select-none p (from a (end - a)) (λ g m t. let b = from-mem a (end - a) g m in not-both t (h g b.0 (omega (arith, b.1)))))

  -- what stands before the first id that passes adds nothing
  pub over_first : (a end b : ℕ) → First p a end b → text_over line p b end ≡ text_over line p a end
  over_first a end b f =
      sym (over-parts a b end f.from-i f.to_end ∙ ap (λ (t : List ℕ). t ++ text_over line p b end) (over_none a b f.from-i f.none_before))

  -- one that passes
  pub over-cons : (g end : ℕ) → g < end → p g ≡ true → text_over line p g end ≡ line_text (line g) ++ text_over line p (g + 1) end
  unfolding text_over
  over-cons g end h t =
      ap (λ (gs : List ℕ). text_of (map line (select p gs))) (from_cons g end h)
      ∙ ap (λ (b : Bool). text_of (map line (keep_if b g (select p (from (g + 1) (end - (g + 1))))))) t
      ∙ text_of-cons (line g) (map line (select p (from (g + 1) (end - (g + 1)))))
