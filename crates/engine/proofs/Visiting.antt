-- Laws of a visit under way: what holds once its walk has come to a tuple, and what each turn of the walk makes of it.
-- From the laws of one step of a visit, and of live words.
use mathlib.Core.Path.{◌≡◌, refl, sym, ◌∙◌, ap, subst}
use mathlib.Core.Bool.{Bool, true, false, ◌||◌, true≢false}
use mathlib.Core.Logic.{◌⊎◌, inl, inr}
use mathlib.Core.List.{List}
use Prim.Native.Nat.{ℕ, suc, ◌+◌, ◌*◌, ◌%◌, ◌≤◌, ◌<◌}
use native.Mathlib.Decide.{ℕ_discrete}
use native.Mathlib.Omega.{arith}
use lib.ListN.{length, get_or, drop}
use Rattle.model.specs.Limits.{max_pairs}
use Rattle.model.specs.TupleSet.{has, count}
use Rattle.model.specs.Network.{size, first_id}
use Rattle.model.specs.Combination.{pair_member}
use Rattle.model.specs.Consistency.{needed}
use Rattle.model.specs.LiveWords.{is_live, cleared}
use Rattle.model.proofs.Bools.{not-both}
use Rattle.model.proofs.LiveWords.{cleared-below, cleared-length}
use Rattle.model.proofs.Support.{is_support-mono}
use Rattle.worklist.specs.Pairs.{queues}
use Rattle.sweeping.specs.Shrunk.{Shrunk}
use Rattle.sweeping.proofs.Shrunk.{shrunk-refl, shrunk-trans}
use Rattle.layout.specs.Setting.{Setting, network, listed, Sound, live_in}
use Rattle.layout.specs.Pairs.{combination_of, size_of, tuple_id}
use Rattle.layout.proofs.Pairs.{member-at}
use Rattle.lean.proofs.Leaner.{pair-asks, lean-cleared}
use Rattle.engine.specs.Work.{Working, Rest, LeanIn, Renewed, Visited}
use Rattle.engine.specs.Rest.{Doomed, Rested}
use Rattle.engine.proofs.Steps.{Small, left-inside, kept-length, kept-beyond, kept-rest, kept-working, kept-done, done-skip, removed-count, removed-working, removed-shrunk, removed-rest, removed-done, kept-noted, removed-noted}
use Rattle.worklist.specs.Supports.{Done}
use Rattle.doubles.specs.Doubles.{Entered}
use Rattle.twins.specs.Twins.{Noted}

-- The visit of pair p has done the first k tuples of its member: what it has kept, and what it has made of the queue, words
-- and numbers that it began with.
pub record VisitOf (G : Setting) (p : ℕ) (queue words numbers queue' words' numbers' : List ℕ) (shrunk : Bool) (k : ℕ) : Type 0 where
  pub small : Small words'
  pub working : Working G words' numbers'
  pub shrinks : Shrunk G words words'
  pub beyond : drop (needed (network G) (listed G)) numbers' ≡ drop (needed (network G) (listed G)) numbers
  pub long : length numbers' ≡ length numbers
  pub wide : length words' ≡ length words
  pub rest : Rest G queue words numbers (λ q. q ≡ p) → Rest G queue' words' numbers' (λ q. q ≡ p)
  pub done : Done G words' numbers' p k
  pub same : shrunk ≡ false → (queue' ≡ queue) × (words' ≡ words)
  pub less : shrunk ≡ true → (count (live_in G words') < count (live_in G words)) × ((q : ℕ) → q < length G.members → queues G.m G.members p q ≡ true → is_live queue' q ≡ true)

-- what is lean stays so in a renewal
pub renewed-lean : {G : Setting} → Sound G → {p x : ℕ} → p < length G.members → x < size_of G p → {words numbers words' numbers' lean : List ℕ} {found : Bool} → tuple_id G p x < 64 * length words → Renewed G p x words numbers found words' numbers' → LeanIn G p words lean → LeanIn G p words' lean
renewed-lean {G} sound {p} {x} hp hx {words} {numbers} {words'} {numbers'} {lean} {found} room R E = go found refl
  where
    is-own : get_or (combination_of G p) (p % G.m) 0 ≡ pair_member G.members p
    is-own = member-at sound.laid.framed sound.paired p hp

    less : LeanIn G p (cleared (tuple_id G p x) words) lean
    less =
        subst (λ (r : ℕ). LeanIn G p (cleared (first_id (network G) r + x) words) lean) is-own
        (lean-cleared G.lists (combination_of G p) (p % G.m) (pair-asks sound p hp) E x (subst (λ (r : ℕ). x < size (network G) r) (sym is-own) hx) (subst (λ (r : ℕ). first_id (network G) r + x < 64 * length words) (sym is-own) room))

    go : (b : Bool) → found ≡ b → LeanIn G p words' lean
    go true q = subst (λ (ws : List ℕ). LeanIn G p ws lean) (sym (R.kept q).0) E
    go false q = subst (λ (ws : List ℕ). LeanIn G p ws lean) (sym (R.removed q).0) less

module _ {G : Setting} (sound : Sound G) {p : ℕ} (hp : p < length G.members) where
  -- nothing is done yet
  pub going_start : {queue words numbers : List ℕ} → Small words → Working G words numbers → VisitOf G p queue words numbers queue words numbers false 0
  going_start {words = words} small work =
      record {
        small = small;
        working = work;
        shrinks = shrunk-refl G words small;
        beyond = refl;
        long = refl;
        wide = refl;
        rest = λ all. all;
        done = λ x l e. absurd (omega arith);
        same = λ _. (refl, refl);
        less = λ e. absurd (true≢false (sym e));
      }

  module _ {queue words numbers queue' words' numbers' : List ℕ} {shrunk : Bool} {k : ℕ} (I : VisitOf G p queue words numbers queue' words' numbers' shrunk k) where
    -- dead tuples are passed over
    pub going-skip : (j : ℕ) → ((x : ℕ) → k ≤ x → x < j → has (live_in G words') (tuple_id G p x) ≡ false) → VisitOf G p queue words numbers queue' words' numbers' shrunk j
    going-skip j dead =
        record {
          small = I.small;
          working = I.working;
          shrinks = I.shrinks;
          beyond = I.beyond;
          long = I.long;
          wide = I.wide;
          rest = I.rest;
          done = done-skip G sound words' numbers' p k j I.done dead;
          same = I.same;
          less = I.less;
        }

    module _ (hk : k < size_of G p) {found : Bool} {words'' numbers'' : List ℕ} (R : Renewed G p k words' numbers' found words'' numbers'') where
      -- the tuple has its first support
      pub going-kept : found ≡ true → VisitOf G p queue words numbers queue' words'' numbers'' shrunk (suc k)
      going-kept e =
          let r = R.kept e in
          subst (λ (ws : List ℕ). VisitOf G p queue words numbers queue' ws numbers'' shrunk (suc k)) (sym r.0)
          (subst (λ (ns : List ℕ). VisitOf G p queue words numbers queue' words' ns shrunk (suc k)) (sym r.1)
          (record {
            small = I.small;
            working = kept-working G sound words' numbers' p k I.working hp hk r.2;
            shrinks = I.shrinks;
            beyond = kept-beyond G sound words' numbers' p k I.working hp hk ∙ I.beyond;
            long = kept-length G sound words' numbers' p k I.working hp hk ∙ I.long;
            wide = I.wide;
            rest = λ all. kept-rest G sound words' numbers' p k I.working hp hk queue' (I.rest all);
            done = kept-done G sound words' numbers' p k I.working hp hk r.2 I.done;
            same = I.same;
            less = I.less;
          }))

      -- the tuple is dead: pairs that are queued wait
      module _ (lives : has (live_in G words') (tuple_id G p k) ≡ true) (queue'' : List ℕ) (waits : (q : ℕ) → q < length G.members → is_live queue'' q ≡ false → (is_live queue' q ≡ false) × (queues G.m G.members p q ≡ false)) where
        fewer-count : (shrunk' : Bool) → shrunk ≡ shrunk' → count (live_in G words') ≤ count (live_in G words)
        fewer-count true e = omega (arith, (I.less e).0)
        fewer-count false e = omega (arith, ap (λ (ws : List ℕ). count (live_in G ws)) (I.same e).1)

        queued : (q : ℕ) → q < length G.members → queues G.m G.members p q ≡ true → (b : Bool) → is_live queue'' q ≡ b → is_live queue'' q ≡ true
        queued q l e true w = w
        queued q l e false w = absurd (not-both e (waits q l w).1)

        pub going-removed : found ≡ false → VisitOf G p queue words numbers queue'' words'' numbers'' true (suc k)
        going-removed e =
            let r = R.removed e in
            let none = r.2 in
            subst (λ (ws : List ℕ). VisitOf G p queue words numbers queue'' ws numbers'' true (suc k)) (sym r.0)
            (subst (λ (ns : List ℕ). VisitOf G p queue words numbers queue'' (cleared (tuple_id G p k) words') ns true (suc k)) (sym r.1)
            (record {
              small = λ i h. cleared-below (tuple_id G p k) words' I.small i (omega (arith, cleared-length (tuple_id G p k) words'));
              working = removed-working G sound words' numbers' I.small p k I.working hp hk lives none;
              shrinks = shrunk-trans G words words' (cleared (tuple_id G p k) words') I.shrinks (removed-shrunk G sound words' numbers' I.small p k I.working hp hk lives none);
              beyond = I.beyond;
              long = I.long;
              wide = cleared-length (tuple_id G p k) words' ∙ I.wide;
              rest = λ all. removed-rest G sound words' numbers' I.small p k I.working hp hk lives none queue' queue'' waits (I.rest all);
              done = removed-done G sound words' numbers' I.small p k I.working hp hk lives none I.done;
              same = λ q. absurd (true≢false q);
              less = λ _. (
                omega (arith, removed-count G sound words' numbers' I.small p k I.working hp hk lives none, fewer-count shrunk refl),
                λ q l f. queued q l f (is_live queue'' q) refl,
              );
            }))

      -- what is noted
      pub going-noted : has (live_in G words') (tuple_id G p k) ≡ true → {sought sought' : List ℕ} → Noted G words' p k sought → Entered k sought sought' → Noted G words'' p (suc k) sought'
      going-noted lives {sought} {sought'} noted entered = go found refl
        where
          go : (b : Bool) → found ≡ b → Noted G words'' p (suc k) sought'
          go true e =
              subst (λ (ws : List ℕ). Noted G ws p (suc k) sought') (sym (R.kept e).0) (kept-noted G sound words' numbers' p k I.working hp hk lives noted entered)
          go false e =
              subst (λ (ws : List ℕ). Noted G ws p (suc k) sought') (sym (R.removed e).0) (removed-noted G sound words' numbers' I.small p k I.working hp hk lives (R.removed e).2 noted entered)

      -- what is doomed
      pub going-doomed : has (live_in G words') (tuple_id G p k) ≡ true → (doomed : List ℕ) → Doomed G p words' doomed → Doomed G p words'' doomed
      going-doomed lives doomed D = go found refl
        where
          go : (b : Bool) → found ≡ b → Doomed G p words'' doomed
          go true e = subst (λ (ws : List ℕ). Doomed G p ws doomed) (sym (R.kept e).0) D
          go false e =
              subst (λ (ws : List ℕ). Doomed G p ws doomed) (sym (R.removed e).0)
              (λ x h f s.
              D x h f
              (s.0, s.1, is_support-mono (network G) (live_in G (cleared (tuple_id G p k) words')) (live_in G words') (left-inside G sound words' numbers' I.small p k I.working hp hk lives (R.removed e).2) (tuple_id G p x) s.0 s.2))

    -- the rest is sought together
    pub going-rested : k ≤ size_of G p → {from : ℕ} {doomed numbers'' doomed'' : List ℕ} → tuple_id G p k ≤ from → Rested G p from words' numbers' doomed numbers'' doomed'' → VisitOf G p queue words numbers queue' words' numbers'' shrunk k
    going-rested few {from} {doomed} {numbers''} {doomed''} l R =
        record {
          small = I.small;
          working = R.working;
          shrinks = I.shrinks;
          beyond = R.beyond ∙ I.beyond;
          long = R.room ∙ I.long;
          wide = I.wide;
          rest = λ all q hq w d y hy e. let r = I.rest all q hq w d y hy e in (r.0, R.same q y hq hy (λ k. absurd (d k)) ∙ r.1);
          done = λ y h e. let r = I.done y h e in (r.0, R.same p y hp (omega (arith, few, h)) (λ _. omega (arith, l, h)) ∙ r.1);
          same = I.same;
          less = I.less;
        }

    -- every pair that a removal queues waits already
    pub still-waits : shrunk ≡ true → (q : ℕ) → q < length G.members → is_live queue' q ≡ false → (is_live queue' q ≡ false) × (queues G.m G.members p q ≡ false)
    still-waits e q l w = (w, go (queues G.m G.members p q) refl)
      where
        go : (b : Bool) → queues G.m G.members p q ≡ b → queues G.m G.members p q ≡ false
        go true f = absurd (not-both ((I.less e).1 q l f) w)
        go false f = f

    -- the last tuple is done
    pub going_end : size_of G p ≤ k → Visited G p queue words numbers queue' words' numbers'
    going_end h =
        record {
          working = I.working;
          shrunk = I.shrinks;
          beyond = I.beyond;
          long = I.long;
          done = λ all q hq w _. at (I.rest all) q hq w (ℕ_discrete q p);
          progress = go shrunk refl;
        }
      where
        at : Rest G queue' words' numbers' (λ q. q ≡ p) → (q : ℕ) → q < length G.members → is_live queue' q ≡ false → Dec (q ≡ p) → Done G words' numbers' q (size_of G q)
        at rest q hq w (yes e) = subst (λ (r : ℕ). Done G words' numbers' r (size_of G r)) (sym e) (λ x l f. I.done x (omega arith) f)
        at rest q hq w (no n) = rest q hq w n

        go : (b : Bool) → shrunk ≡ b → ((queue' ≡ queue) × (words' ≡ words)) ⊎ (count (live_in G words') < count (live_in G words))
        go true e = inr (I.less e).0
        go false e = inl (I.same e)

-- the pairs that wait once those that a removal queues are put
pub requeued-waits : {G : Setting} (sound : Sound G) (p : ℕ) (queue queue' : List ℕ) → ((q : ℕ) → q < max_pairs → is_live queue' q ≡ (is_live queue q || queues G.m G.members p q)) → (q : ℕ) → q < length G.members → is_live queue' q ≡ false → (is_live queue q ≡ false) × (queues G.m G.members p q ≡ false)
requeued-waits {G} sound p queue queue' f q l w =
    let e = sym (f q (omega (arith, sound.paired.list.short))) ∙ w in
    neither (is_live queue q) (queues G.m G.members p q) e
  where
    neither : (a b : Bool) → (a || b) ≡ false → (a ≡ false) × (b ≡ false)
    neither true b e = absurd (true≢false e)
    neither false b e = (refl, e)
