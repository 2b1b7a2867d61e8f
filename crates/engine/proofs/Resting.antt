-- Laws of the rest of a pair's tuples sought together: what the search is asked, and what it leaves.
-- From the laws of pairs and of lean words, and what `seek_together` ensures.
use mathlib.Core.Path.{◌≡◌, refl, sym, ◌∙◌, ap, ap₂, subst}
use mathlib.Core.Bool.{Bool, true, false, ◌||◌}
use mathlib.Core.Logic.{◌⊎◌, inl, inr, ⊎_elim}
use mathlib.Core.List.{List, ◌++◌, append-nil}
use Prim.Native.Nat.{ℕ, suc, ◌+◌, ◌-◌, ◌*◌, ◌/◌, ◌%◌, ◌≤◌, ◌<◌}
use native.Mathlib.Decide.{ℕ_discrete, dec_lt}
use native.Mathlib.Nat.{mul-le-mul_right}
use native.Mathlib.Omega.{arith}
use lib.Dec.{eqb}
use lib.ListN.{length, get_or, take, drop, replicate, length-drop, get_or-replicate}
use lib.Seq.{take_all, drop-length}
use borrow.Author.Tests.{eqb-true}
use Rattle.model.specs.Limits.{max_tuples}
use Rattle.model.specs.TupleSet.{TupleSet, has}
use Rattle.model.specs.Network.{Network, size, total, first_id}
use Rattle.model.specs.Combination.{Combination, pair_member}
use Rattle.model.specs.Support.{first_support}
use Rattle.model.specs.Consistency.{needed, support_start}
use Rattle.model.specs.LiveWords.{is_live, raised}
use Rattle.model.proofs.Bools.{not-both}
use Rattle.model.proofs.LiveWords.{living-has, raised-length, raised-is_live, raised_below, none-is_live}
use Rattle.model.proofs.SupportList.{support_start-suc, support_start-mono, support_start-within}
use Rattle.live.specs.Words.{WordArray}
use Rattle.narrowing.specs.Narrows.{Long}
use Rattle.worklist.specs.Supports.{Supported}
use Rattle.layout.specs.Setting.{Setting, network, listed, live_in}
use Rattle.layout.specs.Pairs.{combination_of, size_of, tuple_id, place_of, held}
use Rattle.layout.proofs.SoundStarts.{tuples-few}
use Rattle.layout.proofs.Pairs.{combination-length, member-at, tuple-below, place-within}
use Rattle.layout.proofs.Rows.{Row, row-total, row-index, row-id}
use Rattle.lean.specs.Lean.{LeanAt}
use Rattle.lean.proofs.Leaner.{pair-asks}
use Rattle.lean.proofs.Supports.{lean-supported, lean-first, lean-back}
use Rattle.together.specs.Together.{Joint, own_at, own_size, numbers_at, held_at, SoundJoint, Frames, Together}
use Rattle.together.specs.Together as together
use Rattle.engine.specs.Work.{Bound, Seeker}
use Rattle.engine.specs.Rest.{HeldAt, SeekingAt, Seeking, Doomed, RestAt, Rested}
use Rattle.engine.proofs.Bounds.{held-inside, chosen}
use Rattle.engine.proofs.Steps.{first-bound}

-- ---- The tuples that seek

-- Pending words while the ids are walked over: only live ids from `from` on are in them.
pub record Raises (words : List ℕ) (from : ℕ) (pending : List ℕ) : Type 0 where
  pub array : WordArray pending
  pub only : (g : ℕ) → g < max_tuples → is_live pending g ≡ true → (from ≤ g) × (is_live words g ≡ true)

pub raises-none : (words : List ℕ) (from : ℕ) → Raises words from (replicate 64 0)
raises-none words from =
    record {
      array = record { long = refl; small = λ i h. let e = get_or-replicate {A = ℕ} 64 i 0 0 h in omega arith };
      only = λ g h e. absurd (not-both e (none-is_live 64 g));
    }

-- one more
pub raises-more : {words : List ℕ} {from : ℕ} {pending : List ℕ} → Raises words from pending → (g : ℕ) → from ≤ g → is_live words g ≡ true → Raises words from (raised g pending)
raises-more {words} {from} {pending} R g l e =
    record {
      array = record { long = raised-length g pending ∙ R.array.long; small = λ i h. raised_below g pending R.array.small i (omega (arith, raised-length g pending)) };
      only = λ h k f. at h k (is_live pending h) refl (sym (raised-is_live g pending R.array.small h (omega (arith, R.array.long, k))) ∙ f);
    }
  where
    at : (h : ℕ) → h < max_tuples → (b : Bool) → is_live pending h ≡ b → (is_live pending h || eqb g h) ≡ true → (from ≤ h) × (is_live words h ≡ true)
    at h k true q f = R.only h k q
    at h k false q f =
        let same : g ≡ h = eqb-true g h (sym (ap (λ (b : Bool). b || eqb g h) q) ∙ f) in
        subst (λ (i : ℕ). (from ≤ i) × (is_live words i ≡ true)) same (l, e)

-- all words copied
pub whole_back : (copy words : List ℕ) → Long copy → Long words → take 64 copy ++ drop 64 words ≡ copy
whole_back copy words a b =
    ap₂ (λ (xs ys : List ℕ). xs ++ ys) (take_all 64 copy (omega (arith, a))) (ap (λ (n : ℕ). drop n words) (sym b) ∙ drop-length words)
    ∙ append-nil copy

-- ---- The search

module _ {G : Setting} {index words lean numbers : List ℕ} {p start from : ℕ} (A : RestAt G index words lean numbers p start from) where
  abbrev N : Network
  N = network G

  abbrev S : TupleSet
  S = live_in G words

  abbrev c : Combination
  c = combination_of G p

  -- the search for the tuples of the pair's member
  abbrev pub joined : Joint
  joined = record { lists = G.lists; members = c; place = p % G.m }

  asks : LeanAt G.lists c (p % G.m)
  asks = pair-asks A.sound p A.pair

  pub member-count : length c ≡ G.m
  member-count = combination-length A.sound.laid.framed A.sound.paired p A.pair

  own_is : get_or c (p % G.m) 0 ≡ pair_member G.members p
  own_is = member-at A.sound.laid.framed A.sound.paired p A.pair

  own-id : (x : ℕ) → own_at joined x ≡ tuple_id G p x
  own-id x = ap (λ (r : ℕ). first_id N r + x) own_is

  own-size : own_size joined ≡ size_of G p
  own-size = ap (size N) own_is

  place_is : (x : ℕ) → numbers_at joined start x ≡ place_of G p x
  place_is x = ap₂ (λ (s n : ℕ). s + x * n) A.begin member-count

  held-is : (ns : List ℕ) (x : ℕ) → held_at joined start ns x ≡ held G ns p x
  held-is ns x = ap₂ (λ (n at : ℕ). take n (drop at ns)) member-count (place_is x)

  pub sound-joint : SoundJoint joined index
  sound-joint = record { laid = A.sound.laid; indexed = A.indexed; members = asks.members; place = asks.inside }

  -- the end of the pair's numbers
  row-end : numbers_at joined start (own_size joined) ≡ support_start N G.m G.members p + size_of G p * G.m
  row-end = place_is (own_size joined) ∙ ap (place_of G p) own-size

  row_within : numbers_at joined start (own_size joined) ≤ needed N (listed G)
  row_within = omega (arith, row-end, support_start-within N G.m G.members A.sound.paired.list.positive A.sound.paired.list.whole p A.pair)

  pub room-joint : together.Room joined start (length numbers)
  room-joint = omega (arith, row_within, A.working.space.room)

  -- ---- Which of them seek

  module _ {first end : ℕ} (row : Row G p first end) where
    -- the numbers of a live one
    holding : (g : ℕ) → first ≤ g → g < end → is_live words g ≡ true → HeldAt words G.lists.starts G.members numbers (p / G.m * G.m) G.m (start + (g - first) * G.m)
    holding g l h e =
        let x-in = row-index row l h in
        let seeker : Seeker G words numbers p (g - first) =
        record {
          sound = A.sound;
          working = A.working;
          pair = A.pair;
          index = x-in;
          lives = living-has (total N) words (tuple_id G p (g - first)) (tuple-below A.sound p (g - first) A.pair x-in) ∙ ap (is_live words) (row-id row l) ∙ e;
        }
        in
        subst (λ (s : ℕ). HeldAt words G.lists.starts G.members numbers (p / G.m * G.m) G.m (s + (g - first) * G.m)) (sym A.begin)
        (record { positive = A.sound.paired.list.positive; few = A.sound.paired.list.few; inside = held-inside seeker; chosen = chosen seeker })

    pub seeking-asks : SeekingAt words G.lists.starts G.members numbers (p / G.m * G.m) G.m start first from end
    seeking-asks =
        record {
          after_first = omega (arith, A.after_first, row.is-first);
          before-end = omega (arith, A.before-end, row.is-first, row.is-end);
          bits = omega (arith, row-total row, A.working.space.enough);
          few = omega (arith, row-total row, tuples-few A.sound.laid.framed);
          places = λ g l h. omega (arith, A.begin, place-within A.sound p (g - first) A.pair (row-index row l h), A.working.space.short);
          holding = holding;
        }

  -- ---- What it leaves

  -- nothing is sought
  pub rested-none : (doomed : List ℕ) → Long doomed → Rested G p from words numbers doomed numbers doomed
  rested-none doomed long =
      record { working = A.working; room = refl; beyond = refl; same = λ q y hq hy b. refl; long = long; none = λ D. D }

  -- the numbers of another pair lie apart from all of these
  row_apart : (q y : ℕ) → q < length G.members → y < size_of G q → Dec (q < p) → (q ≡ p → ⊥) → (place_of G q y + G.m ≤ start) ⊎ (numbers_at joined start (own_size joined) ≤ place_of G q y)
  row_apart q y hq hy (yes l) d =
      let n : suc y ≤ size_of G q = hy in
      inl (omega (arith, A.begin, support_start-mono N G.m G.members (suc q) p l, support_start-suc N G.m G.members q hq, mul-le-mul_right G.m n))
  row_apart q y hq hy (no l) d =
      let n : suc p ≤ q = omega (arith, l, d) in
      inr (omega (arith, row-end, support_start-mono N G.m G.members (suc p) q n, support_start-suc N G.m G.members p A.pair))

  module _ {pending after numbers' : List ℕ} {left : ℕ} (P : Seeking words from pending) (T : Together joined start lean pending after numbers numbers' left) where
    abbrev F : Frames joined start pending after numbers numbers'
    F = T.frames

    module _ (x : ℕ) (hx : x < size_of G p) where
      within : x < own_size joined
      within = omega (arith, own-size, hx)

      -- one that sought
      sought : is_live pending (own_at joined x) ≡ true → (from ≤ own_at joined x) × (is_live words (own_at joined x) ≡ true)
      sought e = P.only (own_at joined x) (omega (arith, own-id x, tuple-below A.sound p x A.pair hx, tuples-few A.sound.laid.framed)) e

      stays : is_live after (own_at joined x) ≡ is_live pending (own_at joined x) → held G numbers' p x ≡ held G numbers p x
      stays e = sym (held-is numbers' x) ∙ F.same x within e ∙ held-is numbers x

      -- one that was found has its first support
      found : is_live pending (own_at joined x) ≡ true → is_live after (own_at joined x) ≡ false → Supported G S c (tuple_id G p x) × (held G numbers' p x ≡ first_support N S c (tuple_id G p x))
      found e f =
          let H = T.taken x within e f in
          let s = lean-back asks A.leaner x within (sought e).1 H.supported in
          subst (λ (g : ℕ). Supported G S c g × (held G numbers' p x ≡ first_support N S c g)) (own-id x)
          (s, sym (held-is numbers' x) ∙ H.held ∙ lean-first asks A.leaner x within (sought e).1 s)

      own-case : (a b : Bool) → is_live after (own_at joined x) ≡ a → is_live pending (own_at joined x) ≡ b → (held G numbers' p x ≡ held G numbers p x) ⊎ ((from ≤ tuple_id G p x) × (Supported G S c (tuple_id G p x) × (held G numbers' p x ≡ first_support N S c (tuple_id G p x))))
      own-case true b e f = inl (stays (e ∙ sym (F.inside (own_at joined x) e)))
      own-case false false e f = inl (stays (e ∙ sym f))
      own-case false true e f = inr (omega (arith, own-id x, (sought f).0), found f e)

      cased : (held G numbers' p x ≡ held G numbers p x) ⊎ ((from ≤ tuple_id G p x) × (Supported G S c (tuple_id G p x) × (held G numbers' p x ≡ first_support N S c (tuple_id G p x))))
      cased = own-case (is_live after (own_at joined x)) (is_live pending (own_at joined x)) refl refl

      own_same : tuple_id G p x < from → held G numbers' p x ≡ held G numbers p x
      own_same l = ⊎_elim (λ e. e) (λ t. absurd (omega (arith, l, t.0))) cased

      own-bound : has S (tuple_id G p x) ≡ true → Bound G S c (tuple_id G p x) (held G numbers' p x)
      own-bound e =
          ⊎_elim
          (λ q. subst (Bound G S c (tuple_id G p x)) (sym q) (A.working.bounds p x A.pair hx e))
          (λ t. subst (Bound G S c (tuple_id G p x)) (sym t.1.1) (first-bound G A.sound S c (tuple_id G p x) t.1.0))
          cased

    other-same : (q y : ℕ) → q < length G.members → y < size_of G q → (q ≡ p → ⊥) → held G numbers' q y ≡ held G numbers q y
    other-same q y hq hy d = F.elsewhere (place_of G q y) G.m (row_apart q y hq hy (dec_lt q p) d)

    bounds : (q y : ℕ) → q < length G.members → y < size_of G q → has S (tuple_id G q y) ≡ true → Dec (q ≡ p) → Bound G S (combination_of G q) (tuple_id G q y) (held G numbers' q y)
    bounds q y hq hy e (no d) = subst (Bound G S (combination_of G q) (tuple_id G q y)) (sym (other-same q y hq hy d)) (A.working.bounds q y hq hy e)
    bounds q y hq hy e (yes k) =
        subst (λ (q : ℕ). y < size_of G q → has S (tuple_id G q y) ≡ true → Bound G S (combination_of G q) (tuple_id G q y) (held G numbers' q y)) (sym k) (λ h f. own-bound y h f) hy e

    same : (q y : ℕ) → q < length G.members → y < size_of G q → (q ≡ p → tuple_id G p y < from) → Dec (q ≡ p) → held G numbers' q y ≡ held G numbers q y
    same q y hq hy b (no d) = other-same q y hq hy d
    same q y hq hy b (yes k) =
        subst (λ (q : ℕ). y < size_of G q → held G numbers' q y ≡ held G numbers q y) (sym k) (λ h. own_same y h (b k)) hy

    -- the numbers behind all pairs'
    beyond : drop (needed N (listed G)) numbers' ≡ drop (needed N (listed G)) numbers
    beyond =
        let n = needed N (listed G) in
        sym (take_all (length numbers) (drop n numbers') (omega (arith, length-drop n numbers', F.room)))
        ∙ F.elsewhere n (length numbers) (inr row_within)
        ∙ take_all (length numbers) (drop n numbers) (omega (arith, length-drop n numbers))

    pub rested : {doomed doomed' : List ℕ} → Long doomed' → (Doomed G p words doomed → Doomed G p words doomed') → Rested G p from words numbers doomed numbers' doomed'
    rested long none =
        record {
          working = record {
            space = record { enough = A.working.space.enough; short = A.working.space.short; room = omega (arith, A.working.space.room, F.room) };
            bounds = λ q y hq hy e. bounds q y hq hy e (ℕ_discrete q p);
          };
          room = F.room;
          beyond = beyond;
          same = λ q y hq hy b. same q y hq hy b (ℕ_discrete q p);
          long = long;
          none = none;
        }

    -- if the steps sufficed, those not found have no support
    pub dooms : (left ≡ 0 → ⊥) → Doomed G p words after
    dooms d x hx e s =
        let e' : is_live after (own_at joined x) ≡ true = ap (is_live after) (own-id x) ∙ e in
        let lives = (sought x hx (F.inside (own_at joined x) e')).1 in
        T.none d x (within x hx) (A.leaner.own x (within x hx) lives) e'
        (lean-supported asks A.leaner x (within x hx) lives (subst (Supported G S c) (sym (own-id x)) s))
