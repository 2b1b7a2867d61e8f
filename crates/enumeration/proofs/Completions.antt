-- The completions of members chosen: those with the next relation first, then those without it; none where some set has no relation
-- left; and of no members at all the connected combinations. From the laws of choices and of members reached.
use mathlib.Core.Path.{◌≡◌, refl, sym, ◌∙◌, ap, subst}
use mathlib.Core.Bool.{Bool, true, false, not, cond}
use mathlib.Core.List.Memᴰ
use mathlib.Core.List.{List, [], ◌∷◌, ◌++◌, map, Memᴰ}
use Prim.Native.Nat.{ℕ, suc, ◌+◌, ◌-◌, ◌/◌, ◌^◌, ◌≤◌, ◌<◌}
use native.Mathlib.Omega.{arith}
use borrow.Author.Tests.{eqb-true, not-false}
use lib.Dec.{eqb}
use lib.ListN.{length, get_or, length-append, length-map}
use Rattle.model.specs.Lists.{from, select}
use Rattle.model.specs.Network.{Network}
use Rattle.model.specs.Agreement.{share}
use Rattle.model.specs.Combination.{Combination, connected}
use Rattle.model.specs.LiveWords.{is_set}
use Rattle.model.specs.Enumeration.{chosen, connected_combinations}
use Rattle.model.proofs.Bools.{not-both}
use Rattle.model.proofs.Lists.{here, all-at, all-not, from_cons, select-append, select-map, select-cong, select-none}
use Rattle.model.proofs.Fault.{Faultless}
use Rattle.model.proofs.Combination.{connected-by, share-sym, share-self}
use Rattle.model.proofs.Enumerated.{chosen_is, head-chosen}
use Rattle.enumeration.specs.Reach.{Neighbours, reach, joined, common, completes, completions, extendable}
use Rattle.enumeration.proofs.Joining.{none_from}
use Rattle.enumeration.proofs.Reached.{completes-connected}

module _ (near ns : List ℕ) where
  -- ---- One relation after the other

  pub completions-end : (k i end : ℕ) → end ≤ i → completions near ns (suc k) i end ≡ []
  unfolding completions
  completions-end k i end h = let e : end - i ≡ 0 = omega arith in ap (λ (n : ℕ). select (completes near ns) (chosen (suc k) (from i n))) e

  -- a relation chosen with some behind it
  completes-on : (k r : ℕ) (xs t : List ℕ) → Memᴰ t (chosen (suc k) xs) → completes near ns (r ∷ t) ≡ completes near (joined r (get_or near r 0) ns) t
  completes-on k r xs t m =
      let h = head-chosen k xs m in
      subst (λ (u : List ℕ). completes near ns (r ∷ u) ≡ completes near (joined r (get_or near r 0) ns) u) h.3 refl

  pub completions-next : (k i end : ℕ) → i < end → completions near ns (suc (suc k)) i end ≡ map (λ (t : List ℕ). i ∷ t) (completions near (joined i (get_or near i 0) ns) (suc k) (i + 1) end) ++ completions near ns (suc (suc k)) (i + 1) end
  unfolding completions
  completions-next k i end h =
      let rest = from (i + 1) (end - (i + 1)) in
      let first = map (λ (t : List ℕ). i ∷ t) (chosen (suc k) rest) in
      ap (λ (xs : List ℕ). select (completes near ns) (chosen (suc (suc k)) xs)) (from_cons i end h)
      ∙ select-append (completes near ns) first (chosen (suc (suc k)) rest)
      ∙ ap (λ (cs : List Combination). cs ++ select (completes near ns) (chosen (suc (suc k)) rest))
      (select-map (completes near ns) (λ (t : List ℕ). i ∷ t) (chosen (suc k) rest)
      ∙ ap (map (λ (t : List ℕ). i ∷ t)) (select-cong (λ (t : List ℕ). completes near ns (i ∷ t)) (completes near (joined i (get_or near i 0) ns)) (chosen (suc k) rest) (completes-on k i rest)))

  -- ---- The last relation

  chosen-one : (xs : List ℕ) → chosen 1 xs ≡ map (λ (r : ℕ). r ∷ []) xs
  chosen-one [] = refl
  chosen-one (x ∷ xs) = ap (λ (cs : List Combination). (x ∷ []) ∷ cs) (chosen-one xs)

  pub completions-last : (i end : ℕ) → completions near ns 1 i end ≡ map (λ (r : ℕ). r ∷ []) (select (common ns) (from i (end - i)))
  unfolding completions
  completions-last i end =
      let xs = from i (end - i) in
      ap (select (completes near ns)) (chosen-one xs) ∙ select-map (completes near ns) (λ (r : ℕ). r ∷ []) xs

-- one set more
pub joined_length : (r w : ℕ) (ns : List ℕ) → length (joined r w ns) ≡ suc (length ns)
joined_length r w ns =
    let f : ℕ → ℕ = λ n. cond (is_set n r) (reach r w ns) n in
    omega (arith, length-append (map f ns) (reach r w ns ∷ []), length-map ns f)

-- ---- Where a set has no relation left

-- a set that the relation is not in stays
joined_keeps : (r w n : ℕ) (ns : List ℕ) → Memᴰ n ns → is_set n r ≡ false → Memᴰ n (joined r w ns)
joined_keeps r w n ns m e =
    Memᴰ.append_left (reach r w ns ∷ [])
    (Memᴰ.cast (sym (ap (λ (b : Bool). cond b (reach r w ns) n) e)) (Memᴰ.map (λ (n : ℕ). cond (is_set n r) (reach r w ns) n) m))

-- and so no relations complete, none of which is in it
shut : (near : List ℕ) (n : ℕ) (t : List ℕ) (r : ℕ) (ns : List ℕ) → Memᴰ n ns → ((s : ℕ) → Memᴰ s (r ∷ t) → is_set n s ≡ false) → completes near ns (r ∷ t) ≡ true → ⊥
shut near n [] r ns m f e = not-both (all-at (λ (n : ℕ). is_set n r) ns e m) (f r here)
shut near n (s ∷ t) r ns m f e =
    shut near n t s (joined r (get_or near r 0) ns) (joined_keeps r (get_or near r 0) n ns m (f r here)) (λ x k. f x (Memᴰ.tail k)) e

shut-any : (near : List ℕ) (n : ℕ) (t ns : List ℕ) → 0 < length t → Memᴰ n ns → ((s : ℕ) → Memᴰ s t → is_set n s ≡ false) → completes near ns t ≡ true → ⊥
shut-any near n [] ns h = absurd (omega arith)
shut-any near n (r ∷ t) ns h = shut near n t r ns

pub completions-shut : (near ns : List ℕ) (k i end : ℕ) → extendable ns i ≡ false → completions near ns (suc k) i end ≡ []
unfolding completions
completions-shut near ns k i end e =
    let a = all-not (λ (n : ℕ). not (eqb (n / 2 ^ i) 0)) ns e in
    let n = a.0 in
    select-none (completes near ns) (chosen (suc k) (from i (end - i)))
    (λ t m.
    let c = chosen_is (suc k) i (end - i) (i + (end - i)) t refl m in
    shut-any near n t ns (omega (arith, c.long)) a.1
    (λ s l. none_from n i s (eqb-true (n / 2 ^ i) 0 (not-false _ a.2)) (c.low s l)))

-- ---- From the first on

pub completions-all : (N : Network) (near : List ℕ) (m : ℕ) → Faultless N → Neighbours N near → completions near [] m 0 (length N.relations) ≡ connected_combinations N m
unfolding completions connected_combinations
completions-all N near m ok neighbours =
    let count = length N.relations in
    let e : count - 0 ≡ count = omega arith in
    ap (λ (n : ℕ). select (completes near []) (chosen m (from 0 n))) e
    ∙ select-cong (completes near []) (connected N) (chosen m (from 0 count))
    (λ c k.
    completes-connected (share N) (share-sym N) count (share-self N ok) near neighbours c (chosen_is m 0 count count c (omega arith) k).high
    ∙ sym (connected-by N c))
