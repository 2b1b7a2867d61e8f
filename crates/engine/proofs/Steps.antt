-- Laws of one step of a visit: what holds once a tuple got its first support, and once one was removed.
-- From the model's laws of what a removal leaves, and of pairs' numbers lying apart.
use mathlib.Core.Path.{◌≡◌, refl, sym, ◌∙◌, ap, subst}
use mathlib.Core.Bool.{Bool, true, false, not, ◌&&◌, and-true, true≢false}
use mathlib.Core.Logic.{◌⊎◌, inl, inr, ⊎_elim}
use mathlib.Core.List.Memᴰ
use mathlib.Core.List.{List}
use Prim.Native.Nat.{ℕ, suc, ◌+◌, ◌*◌, ◌/◌, ◌%◌, ◌^◌, ◌≤◌, ◌<◌}
use native.Mathlib.Decide.{ℕ_discrete, dec_lt}
use native.Mathlib.Omega.{arith}
use lib.Dec.{eqb}
use lib.ListN.{length, get_or, take, drop}
use borrow.Author.Tests.{eqb-true, eq-eqb, ne_eqb}
use Rattle.model.specs.Limits.{word_bits}
use Rattle.model.specs.Lists.{elem}
use Rattle.model.specs.TupleSet.{TupleSet, has, count, without, Inside}
use Rattle.model.specs.Network.{total, size, first_id}
use Rattle.model.specs.Combination.{Combination, pair_member}
use Rattle.model.specs.Support.{first_support}
use Rattle.model.specs.Consistency.{needed}
use Rattle.model.specs.LiveWords.{is_live, cleared}
use Rattle.model.proofs.Bools.{not-both}
use Rattle.model.proofs.Lists.{mem-elem, mem-from}
use Rattle.model.proofs.TupleSet.{restrict-has, restrict-inside, restrict-test}
use Rattle.model.proofs.Network.{ids-below}
use Rattle.model.proofs.Support.{is_support-self, is_support-agree, is_support-mono, first_support-least, first_support-length, first_support-earliest}
use Rattle.model.proofs.LiveWords.{cleared-length, living-cleared, cleared-count, living-has}
use Rattle.model.proofs.Work.{Unused, first_support-without, supported-without, unused-unsupported, unused-elsewhere, unused-sibling}
use Rattle.model.proofs.Twins.{partners-supported}
use Rattle.worklist.specs.Pairs.{queues}
use Rattle.worklist.proofs.Stretch.{replaced, replaced-length, replaced-here, replaced-after, replaced-elsewhere}
use Rattle.sweeping.specs.Shrunk.{Shrunk}
use Rattle.sweeping.proofs.Shrunk.{shrunk-removed}
use Rattle.layout.specs.Setting.{Setting, network, listed, Sound, live_in}
use Rattle.layout.specs.Pairs.{combination_of, size_of, tuple_id, place_of, held}
use Rattle.engine.specs.Work.{Bound, Working, Rest}
use Rattle.layout.proofs.Pairs.{combination-listed, combination-length, combination-rises, tuple-relation, tuple-in, place-within, places-apart, place-below}
use Rattle.worklist.specs.Supports.{Supported, Done}
use Rattle.doubles.specs.Doubles.{Entered}
use Rattle.twins.specs.Twins.{Noted}
use Rattle.twins.proofs.Sought.{noted-next}

-- every word fits in 64 bits
abbrev pub Small : List ℕ → Type 0
Small ws = (i : ℕ) → i < length ws → get_or ws i 0 < 2 ^ 64

module _ (G : Setting) (sound : Sound G) where
  -- ---- A tuple that has a support

  -- the first support is a bound
  pub first-bound : (S : TupleSet) (c : Combination) (g : ℕ) → Supported G S c g → Bound G S c g (first_support (network G) S c g)
  first-bound S c g s =
      let f = first_support-least (network G) S c g s in
      inr
      (record {
        tuples = f.0;
        candidate = f.1;
        own = is_support-self (network G) S g f.0 f.2;
        agreeing = is_support-agree (network G) S g f.0 f.2;
        indices = f.3;
        lowest = first_support-earliest (network G) S c g;
      })

  module _ (words numbers : List ℕ) (p x : ℕ) (working : Working G words numbers) (hp : p < length G.members) (hx : x < size_of G p) where
    abbrev S : TupleSet
    S = live_in G words

    abbrev first : List ℕ
    first = first_support (network G) S (combination_of G p) (tuple_id G p x)

    abbrev after : List ℕ
    after = replaced numbers first (place_of G p x) G.m

    first-long : length first ≡ G.m
    first-long = first_support-length (network G) S (combination_of G p) (tuple_id G p x) ∙ combination-length sound.laid.framed sound.paired p hp

    inside : place_of G p x + G.m ≤ length numbers
    inside = omega (arith, place-within sound p x hp hx, working.space.room)

    -- what is held for other tuples stays
    held-other : (q y : ℕ) → (q ≡ p → y ≡ x → ⊥) → q < length G.members → y < size_of G q → held G after q y ≡ held G numbers q y
    held-other q y d hq hy =
        replaced-elsewhere numbers first (place_of G p x) G.m first-long inside (place_of G q y) G.m (places-apart sound q y p x d hq hp hy hx)

    held-own : held G after p x ≡ first
    held-own = replaced-here numbers first (place_of G p x) G.m first-long inside

    pub kept-length : length after ≡ length numbers
    kept-length = replaced-length numbers first (place_of G p x) G.m first-long inside

    pub kept-beyond : drop (needed (network G) (listed G)) after ≡ drop (needed (network G) (listed G)) numbers
    kept-beyond = replaced-after numbers first (place_of G p x) G.m first-long inside (needed (network G) (listed G)) (place-within sound p x hp hx)

    -- for tuple y of pair q: the new numbers if it is this tuple, the old ones otherwise
    held-case : (P : ℕ → ℕ → List ℕ → Type 0) → P p x first → ((q y : ℕ) → P q y (held G numbers q y)) → (q y : ℕ) → q < length G.members → y < size_of G q → Dec (q ≡ p) → Dec (y ≡ x) → P q y (held G after q y)
    held-case P own other q y hq hy (yes e) (yes f) =
        subst (λ (k : ℕ). P k y (held G after k y)) (sym e) (subst (λ (k : ℕ). P p k (held G after p k)) (sym f) (subst (P p x) (sym held-own) own))
    held-case P own other q y hq hy (yes e) (no d) = subst (P q y) (sym (held-other q y (λ _ f. d f) hq hy)) (other q y)
    held-case P own other q y hq hy (no d) f = subst (P q y) (sym (held-other q y (λ e _. d e) hq hy)) (other q y)

    -- the other pairs stay done
    pub kept-rest : (queue : List ℕ) → Rest G queue words numbers (λ q. q ≡ p) → Rest G queue words after (λ q. q ≡ p)
    kept-rest queue rest q hq w d y hy e =
        let r = rest q hq w d y hy e in
        (r.0, held-other q y (λ f _. d f) hq hy ∙ r.1)

    -- what is noted stays so, and this tuple lives
    pub kept-noted : has S (tuple_id G p x) ≡ true → {sought sought' : List ℕ} → Noted G words p x sought → Entered x sought sought' → Noted G words p (suc x) sought'
    kept-noted lives noted entered = noted-next noted entered (λ h e. e) (λ y l f. f) (λ f. absurd (not-both lives f))

    module _ (s : Supported G S (combination_of G p) (tuple_id G p x)) where
      pub kept-working : Working G words after
      kept-working =
          record {
            space = record { enough = working.space.enough; short = working.space.short; room = subst (λ (n : ℕ). needed (network G) (listed G) ≤ n) (sym kept-length) working.space.room };
            bounds = λ q y hq hy.
                held-case
                (λ q y ns. q < length G.members → y < size_of G q → has S (tuple_id G q y) ≡ true → Bound G S (combination_of G q) (tuple_id G q y) ns)
                (λ _ _ _. first-bound S (combination_of G p) (tuple_id G p x) s)
                (λ q y hq hy e. working.bounds q y hq hy e)
                q
                y
                hq
                hy
                (ℕ_discrete q p)
                (ℕ_discrete y x)
                hq
                hy;
          }

      kept-tuple : (y : ℕ) → y < suc x → has S (tuple_id G p y) ≡ true → Done G words numbers p x → Dec (y ≡ x) → Supported G S (combination_of G p) (tuple_id G p y) × (held G after p y ≡ first_support (network G) S (combination_of G p) (tuple_id G p y))
      kept-tuple y l e done (yes q) =
          subst (λ (k : ℕ). Supported G S (combination_of G p) (tuple_id G p k) × (held G after p k ≡ first_support (network G) S (combination_of G p) (tuple_id G p k))) (sym q) (s, held-own)
      kept-tuple y l e done (no d) =
          let r = done y (omega arith) e in
          (r.0, held-other p y (λ _ f. d f) hp (omega arith) ∙ r.1)

      -- this tuple is done too
      pub kept-done : Done G words numbers p x → Done G words after p (suc x)
      kept-done done y l e = kept-tuple y l e done (ℕ_discrete y x)

  -- ---- Tuples passed over

  -- dead tuples are done
  pub done-skip : (words numbers : List ℕ) (p k k' : ℕ) → Done G words numbers p k → ((x : ℕ) → k ≤ x → x < k' → has (live_in G words) (tuple_id G p x) ≡ false) → Done G words numbers p k'
  done-skip words numbers p k k' done dead x l e = go (dec_lt x k)
    where
      go : Dec (x < k) → Supported G (live_in G words) (combination_of G p) (tuple_id G p x) × (held G numbers p x ≡ first_support (network G) (live_in G words) (combination_of G p) (tuple_id G p x))
      go (yes h) = done x h e
      go (no h) = absurd (not-both e (dead x (omega arith) l))

  -- ---- A tuple that has none

  module _ (words numbers : List ℕ) (small : Small words) (p x : ℕ) (working : Working G words numbers) (hp : p < length G.members) (hx : x < size_of G p) (lives : has (live_in G words) (tuple_id G p x) ≡ true) (none : Supported G (live_in G words) (combination_of G p) (tuple_id G p x) → ⊥) where
    abbrev n : ℕ
    n = total (network G)

    abbrev g : ℕ
    g = tuple_id G p x

    abbrev before : TupleSet
    before = live_in G words

    abbrev fewer : List ℕ
    fewer = cleared g words

    -- the tuple's id
    below : g < n
    below =
        let r = pair_member G.members p in
        ids-below (network G) r (mem-from (first_id (network G) r) (size (network G) r) g (omega arith) (omega arith))

    left_is : live_in G fewer ≡ without (eqb g) before
    left_is = living-cleared n g words small working.space.enough

    pub left-inside : Inside (live_in G fewer) before
    left-inside h e = restrict-inside (λ y. not (eqb g y)) before h (subst (λ (X : TupleSet). has X h ≡ true) left_is e)

    left_other : (h : ℕ) → has (live_in G fewer) h ≡ true → g ≡ h → ⊥
    left_other h e q = not-both (restrict-test (λ y. not (eqb g y)) before h (subst (λ (X : TupleSet). has X h ≡ true) left_is e)) (ap not (eq-eqb g h q))

    -- the tuples before it live as they did
    left-before : (y : ℕ) → y < x → has (live_in G fewer) (tuple_id G p y) ≡ false → has before (tuple_id G p y) ≡ false
    left-before y l f =
        let d : g ≡ tuple_id G p y → ⊥ = λ e. omega arith in
        sym
        (ap (λ (X : TupleSet). has X (tuple_id G p y)) left_is
        ∙ restrict-has (λ h. not (eqb g h)) before (tuple_id G p y)
        ∙ ap (λ (b : Bool). has before (tuple_id G p y) && not b) (ne_eqb g (tuple_id G p y) d)
        ∙ and-true (has before (tuple_id G p y)))
        ∙ f

    -- what is noted stays so, and this tuple has no partners
    pub removed-noted : {sought sought' : List ℕ} → Noted G words p x sought → Entered x sought sought' → Noted G fewer p (suc x) sought'
    removed-noted noted entered =
        let framed = sound.laid.framed in
        let inside : p % G.m < length (combination_of G p) = omega (arith, place-below framed sound.paired p hp, combination-length framed sound.paired p hp) in
        noted-next noted entered left-inside left-before (λ _ P. none (partners-supported inside lives P))

    pub removed-count : count (live_in G fewer) < count before
    removed-count = omega (arith, cleared-count n g words small working.space.enough below (sym (living-has n words g below) ∙ lives))

    bound-stays : (c : Combination) (h : ℕ) (ns : List ℕ) → Bound G before c h ns → Bound G (live_in G fewer) c h ns
    bound-stays c h ns (inl e) = inl e
    bound-stays c h ns (inr k) =
        inr
        (record {
          tuples = k.tuples;
          candidate = k.candidate;
          own = k.own;
          agreeing = k.agreeing;
          indices = k.indices;
          lowest = λ u m e. k.lowest u m (is_support-mono (network G) (live_in G fewer) before left-inside h u e);
        })

    pub removed-working : Working G fewer numbers
    removed-working =
        record {
          space = record { enough = subst (λ (k : ℕ). n ≤ word_bits * k) (sym (cleared-length g words)) working.space.enough; short = working.space.short; room = working.space.room };
          bounds = λ q y hq hy e. bound-stays (combination_of G q) (tuple_id G q y) (held G numbers q y) (working.bounds q y hq hy (left-inside (tuple_id G q y) e));
        }

    pub removed-shrunk : Shrunk G words fewer
    removed-shrunk =
        shrunk-removed G words g (combination_of G p) small working.space.enough below (combination-listed sound.laid.framed sound.paired p hp) (tuple-in sound p x hp hx) none

    -- a tuple that is done stays so where g is in none of its supports
    done-stays : (c : Combination) (h : ℕ) (ns : List ℕ) → Unused (network G) before g c h → Supported G before c h × (ns ≡ first_support (network G) before c h) → Supported G (live_in G fewer) c h × (ns ≡ first_support (network G) (live_in G fewer) c h)
    done-stays c h ns unused d =
        subst (λ (X : TupleSet). Supported G X c h × (ns ≡ first_support (network G) X c h)) (sym left_is)
        (supported-without (network G) before g c h unused d.0, d.1 ∙ sym (first_support-without (network G) before g c h unused))

    -- a pair that is not queued: of the same combination, or one without g's relation, or of that relation itself
    not-queued : (a e b : Bool) → (not a && e && not b) ≡ false → (a ≡ true) ⊎ ((e ≡ false) ⊎ (b ≡ true))
    not-queued true e b h = inl refl
    not-queued false true true h = inr (inr refl)
    not-queued false true false h = absurd (true≢false h)
    not-queued false false b h = inr (inl refl)

    -- such a pair has no need of a visit
    unused-in : (q y : ℕ) → q < length G.members → y < size_of G q → (g ≡ tuple_id G q y → ⊥) → queues G.m G.members p q ≡ false → Unused (network G) before g (combination_of G q) (tuple_id G q y)
    unfolding queues
    unused-in q y hq hy d e =
        ⊎_elim
        (λ f. unused-unsupported (network G) before g (combination_of G q) (tuple_id G q y) (subst (λ (k : ℕ). Supported G before (take G.m (drop (k * G.m) G.members)) g → ⊥) (sym (eqb-true (q / G.m) (p / G.m) f)) none))
        (⊎_elim
        (λ f. unused-elsewhere (network G) before g (combination_of G q) (tuple_id G q y) (λ mem. not-both (mem-elem (combination_of G q) (Memᴰ.cast (sym (tuple-relation sound p x hx)) mem)) f))
        (λ f. unused-sibling (network G) before g (combination_of G q) (tuple_id G q y) (combination-rises sound.laid.framed sound.paired q hq)
        (tuple-relation sound q y hy ∙ eqb-true (pair_member G.members q) (pair_member G.members p) f ∙ sym (tuple-relation sound p x hx))
        d))
        (not-queued (eqb (q / G.m) (p / G.m)) (elem (pair_member G.members p) (combination_of G q)) (eqb (pair_member G.members q) (pair_member G.members p)) e)

    -- the other pairs stay done, but for those queued now
    pub removed-rest : (queue queue' : List ℕ) → ((q : ℕ) → q < length G.members → is_live queue' q ≡ false → (is_live queue q ≡ false) × (queues G.m G.members p q ≡ false)) → Rest G queue words numbers (λ q. q ≡ p) → Rest G queue' fewer numbers (λ q. q ≡ p)
    removed-rest queue queue' less rest q hq w d y hy e =
        let l = less q hq w in
        done-stays (combination_of G q) (tuple_id G q y) (held G numbers q y) (unused-in q y hq hy (left_other (tuple_id G q y) e) l.1)
        (rest q hq l.0 d y hy (left-inside (tuple_id G q y) e))

    -- the member's tuples up to this one are done
    pub removed-done : Done G words numbers p x → Done G fewer numbers p (suc x)
    removed-done done y l e =
        let d = left_other (tuple_id G p y) e in
        done-stays (combination_of G p) (tuple_id G p y) (held G numbers p y) (unused-unsupported (network G) before g (combination_of G p) (tuple_id G p y) none)
        (done y (before-it d) (left-inside (tuple_id G p y) e))
      where
        before-it : (g ≡ tuple_id G p y → ⊥) → y < x
        before-it d = go (ℕ_discrete y x)
          where
            go : Dec (y ≡ x) → y < x
            go (yes q) = absurd (d (ap (tuple_id G p) (sym q)))
            go (no n) = omega arith
