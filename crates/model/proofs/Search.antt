-- Laws of the search for a support, member by member: when it is done, when it goes on, and when it can find nothing.
-- From the definition of the first support among candidates, and the laws of lists, supports, agreement and live words.
use mathlib.Core.Path.{◌≡◌, refl, sym, ◌∙◌, ap, subst}
use mathlib.Core.Bool.{Bool, true, false, not, cond, false≢true}
use mathlib.Core.Option
use mathlib.Core.Option.{Option, none, some, or_else}
use mathlib.Core.List.{List, [], ◌∷◌, ◌++◌, map, map-append, map-id, append-nil, append_assoc, head?, Memᴰ}
use mathlib.Core.Logic.{⊎_elim}
use Prim.Native.Nat.{ℕ, suc, ◌+◌, ◌-◌, ◌≤◌, ◌<◌}
use native.Mathlib.Omega.{arith}
use native.Mathlib.Decide.{ℕ_discrete}
use lib.Dec.{ltb}
use lib.ListN.{length, get_or, take, replicate, length-map}
use borrow.Author.Tests.{not-true}
use Rattle.model.specs.Limits.{no_support}
use Rattle.model.specs.Lists.{from, all, any, select, pairwise, choices, prefixed, earlier}
use Rattle.model.specs.TupleSet.{TupleSet, has, Inside}
use Rattle.model.specs.Network.{Network, size, total, first_id, ids_of, index_of, relation_of}
use Rattle.model.specs.Agreement.{agree}
use Rattle.model.specs.Combination.{Combination}
use Rattle.model.specs.LiveWords.{living, next_live}
use Rattle.model.specs.Support.{candidates, is_support, supports, first_support, first_among, support_from, completion}
use Rattle.model.proofs.Bools.{not-both, and_intro, iff-eq}
use Rattle.model.proofs.Lists.{here, all-at, all-intro, all_map, pairwise-at, pairwise-cross, Picks, choices-picks, picks-choices, picks_at, picks-append, select-append, select-all, select-mem, mem-select, select-none, head-append, head-mem, head-none, first_or-head, from-append, from-mem, earlier-append, earlier-within, earlier-least, later-earlier, any_at, any-intro}
use Rattle.model.proofs.Agreement.{agree-sym}
use Rattle.model.proofs.LiveWords.{living-has, next_live-first}
use Rattle.model.proofs.Support.{is_support-self, is_support-live, is_support-agree, is_support-mono, picks-same, candidates-length, candidates-own, Supported, first_support-least}

module _ (N : Network) (S : TupleSet) (g : ℕ) (low : List ℕ) where
  abbrev late : List ℕ → Bool
  late is = not (earlier is low)

  -- ---- The first among candidates

  abbrev named : List (List ℕ) → List (List ℕ)
  named ts = map (map (index_of N)) (select (is_support N S g) ts)

  first_among-append : (ts us : List (List ℕ)) → first_among N S g low (ts ++ us) ≡ or_else (first_among N S g low ts) (first_among N S g low us)
  unfolding first_among
  first_among-append ts us =
      ap (λ (vs : List (List ℕ)). head? (select late (map (map (index_of N)) vs))) (select-append (is_support N S g) ts us)
      ∙ ap (λ (vs : List (List ℕ)). head? (select late vs)) (map-append (map (index_of N)) (select (is_support N S g) ts) (select (is_support N S g) us))
      ∙ ap head? (select-append late (named ts) (named us))
      ∙ head-append (select late (named ts)) (select late (named us))

  first_among-none : (ts : List (List ℕ)) → ((t : List ℕ) → Memᴰ t ts → is_support N S g t ≡ true → earlier (map (index_of N) t) low ≡ false → ⊥) → first_among N S g low ts ≡ none
  unfolding first_among
  first_among-none ts f =
      ap head?
      (select-none late (named ts)
      (λ is m e.
      let k = mathlib.Core.List.Memᴰ.of_map (map (index_of N)) (select (is_support N S g) ts) m in
      let s = select-mem (is_support N S g) ts k.1 in
      f k.0 s.0 s.1 (ap (λ (js : List ℕ). earlier js low) k.2 ∙ not-true (earlier is low) e)))

  -- ---- One member's turn

  -- no member is left
  pub completion-done : (ch : List ℕ) → is_support N S g ch ≡ true → earlier (map (index_of N) ch) low ≡ false → completion N S g low ch [] ≡ some (map (index_of N) ch)
  unfolding completion first_among
  completion-done ch s l = rw (append-nil ch, s, l)

  -- the next member has no tuple left
  pub completion-none : (ch : List ℕ) (xss : List (List ℕ)) → completion N S g low ch ([] ∷ xss) ≡ none
  unfolding completion first_among
  completion-none ch xss = refl

  -- the next member's tuple x first, and otherwise the tuples after x
  pub completion-step : (ch : List ℕ) (x : ℕ) (xs : List ℕ) (xss : List (List ℕ)) → completion N S g low ch ((x ∷ xs) ∷ xss) ≡ or_else (completion N S g low (ch ++ (x ∷ [])) xss) (completion N S g low ch (xs ∷ xss))
  unfolding completion
  completion-step ch x xs xss =
      ap (first_among N S g low)
      (map-append (λ (t : List ℕ). ch ++ t) (map (λ (t : List ℕ). x ∷ t) (choices xss)) (prefixed xs (choices xss))
      ∙ ap (λ (ts : List (List ℕ)). ts ++ map (λ (t : List ℕ). ch ++ t) (prefixed xs (choices xss))) (onward (choices xss)))
      ∙ first_among-append (map (λ (t : List ℕ). ch ++ (x ∷ []) ++ t) (choices xss)) (map (λ (t : List ℕ). ch ++ t) (prefixed xs (choices xss)))
    where
      onward : (ts : List (List ℕ)) → map (λ (t : List ℕ). ch ++ t) (map (λ (t : List ℕ). x ∷ t) ts) ≡ map (λ (t : List ℕ). ch ++ (x ∷ []) ++ t) ts
      onward [] = refl
      onward (t ∷ ts) = ap {B = List (List ℕ)} (λ u. u ∷ map (λ (t : List ℕ). ch ++ t) (map (λ (t : List ℕ). x ∷ t) ts)) (sym (append_assoc ch (x ∷ []) t)) ∙ ap {B = List (List ℕ)} (λ us. (ch ++ (x ∷ []) ++ t) ∷ us) (onward ts)

  -- ---- When nothing can be found

  -- no support goes on from ch
  pub completion-hopeless : (ch : List ℕ) (xss : List (List ℕ)) → ((t : List ℕ) → Picks xss t → is_support N S g (ch ++ t) ≡ true → earlier (map (index_of N) (ch ++ t)) low ≡ false → ⊥) → completion N S g low ch xss ≡ none
  unfolding completion
  completion-hopeless ch xss f =
      first_among-none (map (λ (t : List ℕ). ch ++ t) (choices xss))
      (λ u m s l.
      let k = mathlib.Core.List.Memᴰ.of_map (λ (t : List ℕ). ch ++ t) (choices xss) m in
      f k.0 (choices-picks xss k.1)
      (ap (is_support N S g) k.2 ∙ s) (ap (λ (t : List ℕ). earlier (map (index_of N) t) low) k.2 ∙ l))

  -- where nothing is found, none does
  pub completion-nothing : (ch : List ℕ) (xss : List (List ℕ)) → completion N S g low ch xss ≡ none → (t : List ℕ) → Picks xss t → is_support N S g (ch ++ t) ≡ true → earlier (map (index_of N) (ch ++ t)) low ≡ false → ⊥
  unfolding completion first_among
  completion-nothing ch xss e t p s l =
      let ts = map (λ (t : List ℕ). ch ++ t) (choices xss) in
      head-none (select late (named ts)) e
      (mem-select late (named ts) (mathlib.Core.List.Memᴰ.map (map (index_of N)) (mem-select (is_support N S g) ts (mathlib.Core.List.Memᴰ.map (λ (t : List ℕ). ch ++ t) (picks-choices p)) s)) (ap not l))

  -- a tuple chosen is dead
  pub completion-dead : (ch : List ℕ) (xss : List (List ℕ)) {x : ℕ} → Memᴰ x ch → has S x ≡ false → completion N S g low ch xss ≡ none
  completion-dead ch xss m e =
      completion-hopeless ch xss (λ t p s l. not-both (all-at (has S) (ch ++ t) (is_support-live N S g (ch ++ t) s) (mathlib.Core.List.Memᴰ.append_left t m)) e)

  -- a member still to be chosen from has no live tuple
  pub completion-bare : (ch : List ℕ) (xss : List (List ℕ)) (j : ℕ) → j < length xss → ((x : ℕ) → Memᴰ x (get_or xss j []) → has S x ≡ false) → completion N S g low ch xss ≡ none
  completion-bare ch xss j h f =
      completion-hopeless ch xss
      (λ t p s l.
      let k = picks_at p j 0 h in
      not-both (all-at (has S) (ch ++ t) (is_support-live N S g (ch ++ t) s) (mathlib.Core.List.Memᴰ.append_right ch k.0)) (f (get_or t j 0) k.1))

  -- what is chosen is earlier than low
  pub completion-early : (ch : List ℕ) (xss : List (List ℕ)) → earlier (map (index_of N) ch) low ≡ true → completion N S g low ch xss ≡ none
  completion-early ch xss e =
      completion-hopeless ch xss
      (λ t p s l. not-both
      (ap (λ (is : List ℕ). earlier is low) (map-append (index_of N) ch t) ∙ earlier-append (map (index_of N) ch) (map (index_of N) t) low e)
      l)

  -- the tuple chosen last, another than g, does not agree with g or with one chosen before it
  pub completion-clash : (ch : List ℕ) (x : ℕ) (xss : List (List ℕ)) → (g ≡ x → ⊥) → all (λ (y : ℕ). agree N y x) (g ∷ ch) ≡ false → completion N S g low (ch ++ (x ∷ [])) xss ≡ none
  completion-clash ch x xss d e =
      completion-hopeless (ch ++ (x ∷ [])) xss
      (λ t p s l.
      let u = ch ++ (x ∷ []) ++ t in
      let pairs = is_support-agree N S g u s in
      let x-in : Memᴰ x u = mathlib.Core.List.Memᴰ.append_left t (mathlib.Core.List.Memᴰ.append_right ch here) in
      let x-after : Memᴰ x ((x ∷ []) ++ t) = here in
      not-both
      (and_intro
      (pairwise-at (agree N) (agree-sym N) u pairs (is_support-self N S g u s) x-in d)
      (all-intro (λ (y : ℕ). agree N y x) ch
      (λ y m. pairwise-cross (agree N) ch ((x ∷ []) ++ t) (ap (pairwise (agree N)) (sym (append_assoc ch (x ∷ []) t)) ∙ pairs) m x-after)))
      e)

  -- a tuple chosen is of g's relation, and not g
  pub completion-other : (c d : Combination) (ch : List ℕ) {x : ℕ} → pairwise ltb (c ++ d) ≡ true → Picks (map (ids_of N) c) ch → Memᴰ x ch → relation_of N x ≡ relation_of N g → (x ≡ g → ⊥) → completion N S g low ch (map (ids_of N) d) ≡ none
  completion-other c d ch rises p m e other =
      completion-hopeless ch (map (ids_of N) d)
      (λ t q s l. other
      (picks-same N (c ++ d) rises (subst (λ (xss : List (List ℕ)). Picks xss (ch ++ t)) (sym (map-append (ids_of N) c d)) (picks-append p q))
      (mathlib.Core.List.Memᴰ.append_left t m) (is_support-self N S g (ch ++ t) s) e))

  -- ---- Parts of the next member's tuples

  module _ (ch : List ℕ) (xss : List (List ℕ)) where
    -- every one of these tuples leads to nothing
    abbrev pub Hopeless : (ℕ → Type 0) → Type 0
    Hopeless P = (x : ℕ) → P x → completion N S g low (ch ++ (x ∷ [])) xss ≡ none

    completion-skip : (xs ys : List ℕ) → Hopeless (λ x. Memᴰ x xs) → completion N S g low ch ((xs ++ ys) ∷ xss) ≡ completion N S g low ch (ys ∷ xss)
    unfolding or_else
    completion-skip [] ys f = refl
    completion-skip (x ∷ xs) ys f =
        completion-step ch x (xs ++ ys) xss
        ∙ ap (λ (o : Option (List ℕ)). or_else o (completion N S g low ch ((xs ++ ys) ∷ xss))) (f x here)
        ∙ completion-skip xs ys (λ y m. f y (mathlib.Core.List.Memᴰ.tail m))

    completion-cut : (xs ys : List ℕ) → Hopeless (λ y. Memᴰ y ys) → completion N S g low ch ((xs ++ ys) ∷ xss) ≡ completion N S g low ch (xs ∷ xss)
    completion-cut [] ys f =
        ap (λ (zs : List ℕ). completion N S g low ch (zs ∷ xss)) (sym (append-nil ys)) ∙ completion-skip ys [] f
    completion-cut (x ∷ xs) ys f =
        completion-step ch x (xs ++ ys) xss
        ∙ ap (or_else (completion N S g low (ch ++ (x ∷ [])) xss)) (completion-cut xs ys f)
        ∙ sym (completion-step ch x xs xss)

    -- the first that goes on with one of the ids from i on and below end
    abbrev pub reach : ℕ → ℕ → Option (List ℕ)
    reach i end = completion N S g low ch (from i (end - i) ∷ xss)

    pub reach-none : (i end : ℕ) → end ≤ i → reach i end ≡ none
    reach-none i end h = let e : end - i ≡ 0 = omega arith in rw e (completion-none ch xss)

    pub reach_step : (i end : ℕ) → i < end → reach i end ≡ or_else (completion N S g low (ch ++ (i ∷ [])) xss) (reach (suc i) end)
    reach_step i end h = let e : end - i ≡ suc (end - suc i) = omega arith in rw e (completion-step ch i (from (suc i) (end - suc i)) xss)

    -- ids that lead to nothing are passed over
    pub reach-skip : (i j end : ℕ) → i ≤ j → j ≤ end → Hopeless (λ x. (i ≤ x) × (x < j)) → reach i end ≡ reach j end
    reach-skip i j end h k f =
        let e : end - i ≡ (j - i) + (end - j) = omega arith in
        let b : i + (j - i) ≡ j = omega arith in
        rw (e, from-append i (j - i) (end - j), b)
        (completion-skip (from i (j - i)) (from j (end - j)) (λ x m. let r = from-mem i (j - i) x m in f x (r.0, omega arith)))

    -- the last ids lead to nothing
    pub reach-cut : (i j end : ℕ) → i ≤ j → j ≤ end → Hopeless (λ x. (j ≤ x) × (x < end)) → reach i end ≡ reach i j
    reach-cut i j end h k f =
        let e : end - i ≡ (j - i) + (end - j) = omega arith in
        let b : i + (j - i) ≡ j = omega arith in
        rw (e, from-append i (j - i) (end - j), b)
        (completion-cut (from i (j - i)) (from j (end - j)) (λ x m. let r = from-mem j (end - j) x m in f x (r.0, omega arith)))

  -- ---- The whole search

  -- nothing chosen yet: the first support at or after low
  pub completion-start : (c : Combination) → completion N S g low [] (map (ids_of N) c) ≡ support_from N S c g low
  unfolding completion support_from candidates
  completion-start c = ap (first_among N S g low) (map-id (choices (map (ids_of N) c)))

  -- no support of g in c is earlier than low
  abbrev pub Lowest : Combination → Type 0
  Lowest c = (t : List ℕ) → Memᴰ t (candidates N c) → is_support N S g t ≡ true → earlier (map (index_of N) t) low ≡ false

  -- no support is earlier than low: the first support
  pub support_from-first : (c : Combination) → Lowest c → first_support N S c g ≡ Option.get_or (support_from N S c g low) (replicate (length c) no_support)
  unfolding first_support supports support_from first_among
  support_from-first c f =
      first_or-head (replicate (length c) no_support) (named (candidates N c))
      ∙ ap (λ (ts : List (List ℕ)). Option.get_or (head? ts) (replicate (length c) no_support))
      (sym
      (select-all late (named (candidates N c))
      (all_map (map (index_of N)) late (select (is_support N S g) (candidates N c))
      ∙ all-intro (λ (t : List ℕ). late (map (index_of N) t)) (select (is_support N S g) (candidates N c))
      (λ t m. let s = select-mem (is_support N S g) (candidates N c) m in ap not (f t s.0 s.1)))))

  -- what is found is a support
  pub support_from-some : (c : Combination) (is : List ℕ) → support_from N S c g low ≡ some is → Supported N S c g
  unfolding support_from first_among
  support_from-some c is e =
      let m = select-mem late (named (candidates N c)) (head-mem (select late (named (candidates N c))) e) in
      let k = mathlib.Core.List.Memᴰ.of_map (map (index_of N)) (select (is_support N S g) (candidates N c)) m.0 in
      let s = select-mem (is_support N S g) (candidates N c) k.1 in
      (k.0, s.0, s.1)

  -- where none is found, and no support is earlier than low, there is none
  pub support_from-none : (c : Combination) → Lowest c → support_from N S c g low ≡ none → Supported N S c g → ⊥
  unfolding support_from first_among
  support_from-none c f e s =
      head-none (select late (named (candidates N c))) e
      (mem-select late (named (candidates N c)) (mathlib.Core.List.Memᴰ.map (map (index_of N)) (mem-select (is_support N S g) (candidates N c) s.1 s.2)) (ap not (f s.0 s.1 s.2)))

  -- so one is found exactly if there is one
  pub support_from-any : (c : Combination) → Lowest c → (ok : Bool) (is : List ℕ) → cond ok (some is) none ≡ support_from N S c g low → ok ≡ any (is_support N S g) (candidates N c)
  support_from-any c f true is e =
      let s = support_from-some c is (sym e) in
      sym (any-intro (is_support N S g) (candidates N c) s.1 s.2)
  support_from-any c f false is e =
      iff-eq false (any (is_support N S g) (candidates N c)) (λ q. absurd (false≢true q)) (λ q. absurd (support_from-none c f (sym e) (any_at (is_support N S g) (candidates N c) q)))

  -- ---- Where a search may begin

  -- at the first support of a larger set: no support before it can come back while tuples only go
  pub support_from-resume : (c : Combination) (T : TupleSet) → Inside S T → Supported N T c g → take (length c) low ≡ first_support N T c g → first_support N S c g ≡ Option.get_or (support_from N S c g low) (replicate (length c) no_support)
  support_from-resume c T inside had e =
      let f = first_support-least N T c g had in
      let is-low : take (length c) low ≡ map (index_of N) f.0 = e ∙ f.3 in
      support_from-first c
      (λ u m s.
      earlier-within (map (index_of N) u) low
      ∙ ap (λ (n : ℕ). earlier (map (index_of N) u) (take n low)) (length-map u (index_of N) ∙ candidates-length N c m)
      ∙ ap (earlier (map (index_of N) u)) is-low
      ∙ ⊎_elim
      (λ q. ap (λ (t : List ℕ). earlier (map (index_of N) t) (map (index_of N) f.0)) q ∙ earlier-least (map (index_of N) f.0) (map (index_of N) f.0) (λ j l. omega arith))
      (λ l. later-earlier (map (index_of N) u) (map (index_of N) f.0) l)
      (f.4 u m (is_support-mono N S T inside g u s)))

  -- at the index of g in its own place and 0 elsewhere
  pub start-lowest : (c : Combination) (place own : ℕ) → pairwise ltb c ≡ true → place < length c → own < size N (get_or c place 0) → g ≡ first_id N (get_or c place 0) + own → get_or low place 0 ≡ own → ((j : ℕ) → (j ≡ place → ⊥) → get_or low j 0 ≡ 0) → Lowest c
  start-lowest c place own rises h l is-g at_place elsewhere u m s =
      earlier-least (map (index_of N) u) low (λ j k. at u m s j (ℕ_discrete j place))
    where
      at : (u : List ℕ) → Memᴰ u (candidates N c) → is_support N S g u ≡ true → (j : ℕ) → Dec (j ≡ place) → get_or low j 0 ≤ get_or (map (index_of N) u) j 0
      at u m s j (yes q) =
          let e : get_or (map (index_of N) u) place 0 ≡ own = candidates-own N c rises m place own h l (subst (λ (x : ℕ). Memᴰ x u) is-g (is_support-self N S g u s)) in
          rw q (omega arith)
      at u m s j (no d) = let e = elsewhere j d in omega arith

  pub support_from-start : (c : Combination) (place own : ℕ) → pairwise ltb c ≡ true → place < length c → own < size N (get_or c place 0) → g ≡ first_id N (get_or c place 0) + own → get_or low place 0 ≡ own → ((j : ℕ) → (j ≡ place → ⊥) → get_or low j 0 ≡ 0) → first_support N S c g ≡ Option.get_or (support_from N S c g low) (replicate (length c) no_support)
  support_from-start c place own rises h l is-g at_place elsewhere =
      support_from-first c (start-lowest c place own rises h l is-g at_place elsewhere)

-- ---- From one live id to the next

module _ (N : Network) (ws : List ℕ) (g : ℕ) (low ch : List ℕ) (xss : List (List ℕ)) where
  pub reach_live : (i end : ℕ) → i ≤ end → end ≤ total N → reach N (living (total N) ws) g low ch xss i end ≡ reach N (living (total N) ws) g low ch xss (next_live ws i end) end
  reach_live i end h k =
      let f = next_live-first ws i end h in
      reach-skip N (living (total N) ws) g low ch xss i (next_live ws i end) end f.from-i f.to_end
      (λ x b. completion-dead N (living (total N) ws) g low (ch ++ (x ∷ [])) xss (mathlib.Core.List.Memᴰ.append_right ch here)
      (living-has (total N) ws x (omega (arith, f.to_end, b.1)) ∙ f.none_before x b.0 b.1))
