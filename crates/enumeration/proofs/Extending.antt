-- The combinations that complete the first k of m members: with one more relation chosen, and without it. From the laws of completions.
use mathlib.Core.Path.{◌≡◌, sym, ◌∙◌, ap, ap₂}
use mathlib.Core.Bool.{false}
use mathlib.Core.List.{List, [], ◌∷◌, ◌++◌, map, map-map, map-append, append_assoc}
use Prim.Native.Nat.{ℕ, zero, suc, ◌+◌, ◌-◌, ◌≤◌, ◌<◌}
use native.Mathlib.Numerals.{add-one}
use native.Mathlib.Omega.{arith}
use lib.ListN.{length, get_or, set, take}
use lib.Seq.{length-take-le, take_all, take-suc-set}
use Rattle.model.specs.Combination.{Combination}
use Rattle.model.specs.Limits.{max_relations}
use Rattle.model.specs.Lists.{from, select}
use Rattle.model.specs.LiveWords.{is_set}
use Rattle.model.proofs.Bools.{not-both}
use Rattle.model.proofs.Lists.{First, select-cong, select-none, from-mem}
use Rattle.enumeration.specs.Reach.{joined, common, Joining, completions, extendable}
use Rattle.enumeration.specs.Stage.{last_extensions, extensions}
use Rattle.enumeration.proofs.Joining.{Tried}
use Rattle.enumeration.proofs.Completions.{joined_length, completions-end, completions-next, completions-last, completions-shut}

module _ (near sets members : List ℕ) (m k count : ℕ) where
  abbrev es : ℕ → List Combination
  es i = extensions near sets members m k i count

  -- the members chosen, before what completes them
  abbrev behind : List ℕ → List ℕ
  behind t = take k members ++ t

  abbrev ns : List ℕ
  ns = take k sets

  -- the last ones are in every set
  pub extensions-one : (i : ℕ) → k + 1 ≡ m → es i ≡ map (λ (r : ℕ). take k members ++ (r ∷ [])) (select (common ns) (from i (count - i)))
  extensions-one i e =
      let one : m - k ≡ 1 = omega arith in
      ap (λ (j : ℕ). map behind (completions near ns j i count)) one
      ∙ ap (map behind) (completions-last near ns i count)
      ∙ map-map behind (λ (r : ℕ). r ∷ []) (select (common ns) (from i (count - i)))

  -- .. or the relations of a word that has those in every set
  pub extensions-last : (word i : ℕ) → k + 1 ≡ m → count ≤ max_relations → ((s : ℕ) → s < max_relations → is_set word s ≡ common ns s) → last_extensions word members k i count ≡ es i
  extensions-last word i e few is =
      let xs = from i (count - i) in
      ap (map (λ (r : ℕ). take k members ++ (r ∷ []))) (select-cong (is_set word) (common ns) xs (λ s l. is s (omega (arith, from-mem i (count - i) s l))))
      ∙ sym (extensions-one i e)

  module _ (before : k < m) where
    some : m - k ≡ suc (m - k - 1)
    some = omega arith

    pub extensions-end : (i : ℕ) → count ≤ i → es i ≡ []
    extensions-end i h =
        ap (λ (j : ℕ). map behind (completions near ns j i count)) some ∙ ap (map behind) (completions-end near ns (m - k - 1) i count h)

    pub extensions-shut : (i : ℕ) → extendable ns i ≡ false → es i ≡ []
    extensions-shut i e =
        ap (λ (j : ℕ). map behind (completions near ns j i count)) some ∙ ap (map behind) (completions-shut near ns (m - k - 1) i count e)

  -- those with relation r next, and those without it
  pub extensions-next : (r : ℕ) (more : List ℕ) → k + 1 < m → k < length members → r < count → take (suc k) more ≡ joined r (get_or near r 0) ns → es r ≡ extensions near more (set members k r) m (k + 1) (r + 1) count ++ es (r + 1)
  extensions-next r more h l below e =
      let j = m - k - 2 in
      let two : m - k ≡ suc (suc j) = omega arith in
      let one : m - (k + 1) ≡ suc j = omega arith in
      let with-r = completions near (joined r (get_or near r 0) ns) (suc j) (r + 1) count in
      let without = completions near ns (suc (suc j)) (r + 1) count in
      let prefix : take k members ++ (r ∷ []) ≡ take (k + 1) (set members k r) =
      sym (ap (λ (i : ℕ). take i (set members k r)) (add-one k) ∙ take-suc-set members k r l)
      in
      let first : map behind (map (λ (t : List ℕ). r ∷ t) with-r) ≡ extensions near more (set members k r) m (k + 1) (r + 1) count =
      map-map behind (λ (t : List ℕ). r ∷ t) with-r
      ∙ ap (λ (f : List ℕ → List ℕ). map f with-r) (λ i t. sym (append_assoc (take k members) (r ∷ []) t) i)
      ∙ ap (λ (p : List ℕ). map (λ (t : List ℕ). p ++ t) with-r) prefix
      ∙ ap₂ (λ (s : List ℕ) (i : ℕ). map (λ (t : List ℕ). take (k + 1) (set members k r) ++ t) (completions near s i (r + 1) count))
      (sym (ap (λ (i : ℕ). take i more) (add-one k) ∙ e)) (sym one)
      in
      ap (λ (i : ℕ). map behind (completions near ns i r count)) two
      ∙ ap (map behind) (completions-next near ns j r count below)
      ∙ map-append behind (map (λ (t : List ℕ). r ∷ t) with-r) without
      ∙ ap₂ (λ (a b : List Combination). a ++ b) first (ap (λ (i : ℕ). map behind (completions near ns i (r + 1) count)) (sym two))

-- ---- Two left to choose

module _ (near sets members : List ℕ) (m k count : ℕ) (two : k + 2 ≡ m) (few : count ≤ max_relations) (sized : k < length members) (long : k ≤ length sets) where
  -- relation r next, and then each relation of the word
  pub two-next : (r word : ℕ) → r < count → Joining word r (get_or near r 0) (take k sets) → extensions near sets members m k r count ≡ last_extensions word (set members k r) (k + 1) (r + 1) count ++ extensions near sets members m k (r + 1) count
  two-next r word below is =
      let more = joined r (get_or near r 0) (take k sets) in
      let whole : take (k + 1) more ≡ more = take_all (k + 1) more (omega (arith, joined_length r (get_or near r 0) (take k sets), length-take-le k sets long)) in
      extensions-next near sets members m k count r more (omega arith) sized below (ap (λ (i : ℕ). take i more) (sym (add-one k)) ∙ whole)
      ∙ ap (λ (cs : List Combination). cs ++ extensions near sets members m k (r + 1) count)
      (sym (extensions-last near more (set members k r) m (k + 1) count word (r + 1) (omega arith) few (λ s h. is s h ∙ ap (λ (ns : List ℕ). common ns s) (sym whole))))

  -- a relation with none behind it that completes the members is passed over
  two-skip : (r : ℕ) → r < count → ((s : ℕ) → r < s → s < count → common (joined r (get_or near r 0) (take k sets)) s ≡ false) → extensions near sets members m k r count ≡ extensions near sets members m k (r + 1) count
  two-skip r below none =
      let more = joined r (get_or near r 0) (take k sets) in
      let whole : take (k + 1) more ≡ more = take_all (k + 1) more (omega (arith, joined_length r (get_or near r 0) (take k sets), length-take-le k sets long)) in
      let xs = from (r + 1) (count - (r + 1)) in
      extensions-next near sets members m k count r more (omega arith) sized below (ap (λ (i : ℕ). take i more) (sym (add-one k)) ∙ whole)
      ∙ ap (λ (cs : List Combination). cs ++ extensions near sets members m k (r + 1) count)
      (extensions-one near more (set members k r) m (k + 1) count (r + 1) (omega arith)
      ∙ ap (map (λ (s : ℕ). take (k + 1) (set members k r) ++ (s ∷ [])))
      (select-none (common (take (k + 1) more)) xs
      (λ s l e.
      let b = from-mem (r + 1) (count - (r + 1)) s l in
      not-both e (ap (λ (ns : List ℕ). common ns s) whole ∙ none s (omega (arith, b)) (omega (arith, b))))))

  skip_all : (n i : ℕ) → i + n ≤ count → ((j : ℕ) → i ≤ j → j < i + n → (s : ℕ) → j < s → s < count → common (joined j (get_or near j 0) (take k sets)) s ≡ false) → extensions near sets members m k i count ≡ extensions near sets members m k (i + n) count
  skip_all zero i h none = let e : i ≡ i + 0 = omega arith in ap (λ (j : ℕ). extensions near sets members m k j count) e
  skip_all (suc n) i h none =
      let e : i + n + 1 ≡ i + suc n = omega arith in
      skip_all n i (omega arith) (λ j l g. none j l (omega arith))
      ∙ two-skip (i + n) (omega arith) (none (i + n) (omega arith) (omega arith))
      ∙ ap (λ (j : ℕ). extensions near sets members m k j count) e

  -- .. and so are those before the next one that is tried
  pub tried-all : (word i r : ℕ) → Tried word near (take k sets) i count → First (is_set word) i count r → extensions near sets members m k i count ≡ extensions near sets members m k r count
  tried-all word i r T f =
      let e : i + (r - i) ≡ r = omega (arith, f.from-i) in
      skip_all (r - i) i (omega (arith, e, f.to_end)) (λ j l g. T j l (omega (arith, f.to_end)) (f.none_before j l (omega arith)))
      ∙ ap (λ (j : ℕ). extensions near sets members m k j count) e
