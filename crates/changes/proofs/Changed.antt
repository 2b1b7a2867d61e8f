-- What a change leaves, step by step, and that what it leaves and answers is the reply to its request.
-- From the laws of ids removed, of the filter's contract, of the checks, and of replies.
use mathlib.Core.Path.{◌≡◌, sym, ◌∙◌, ap, ap₂, subst}
use mathlib.Core.Bool.{Bool, ◌&&◌}
use mathlib.Core.List.{List, ◌++◌}
use Prim.Native.Nat.{ℕ, ◌-◌, ◌*◌, ◌^◌, ◌≤◌, ◌<◌}
use native.Mathlib.Omega.{arith}
use borrow.Author.Tests.{lt-ltb}
use lib.ListN.{length, get_or, take, drop, length-append, length-drop}
use Rattle.model.specs.declared.Counts.{Counts}
use Rattle.model.specs.declared.Answer.{Answer}
use Rattle.model.specs.Limits.{word_bits}
use Rattle.model.specs.TupleSet.{TupleSet, count, without}
use Rattle.model.specs.Network.{Network, total}
use Rattle.model.specs.Combination.{Combination}
use Rattle.model.specs.LiveCounts.{live_counts}
use Rattle.model.specs.Consistency.{filtered, support_list, needed}
use Rattle.model.specs.LiveWords.{is_live, living_from, living, written}
use Rattle.model.specs.Request.{Change, Instance, combinations_of, Request, removes}
use Rattle.model.specs.Fault.{first_fault, refusal, untrue, faults_on}
use Rattle.model.specs.Reply.{answer_numbers, answer_for, remainder, leaving, accepted, reply, refused, request, replied}
use Rattle.model.specs.Edges.{restored}
use Rattle.model.proofs.TupleSet.{without-count, without-length, without-cong, has-below}
use Rattle.model.proofs.Consistency.{filtered-length, filtered-count, support_list-length}
use Rattle.model.proofs.LiveWords.{living-length, written-length, living-written, written-written, living-take}
use Rattle.model.proofs.LiveCounts.{counts-length, true-counts}
use Rattle.model.proofs.Fault.{accepts-true}
use Rattle.model.proofs.Reply.{reply-fault, accepts-none, reply-accepted, counts_for-differences}
use Rattle.model.proofs.Edges.{leaving-needed}
use Rattle.layout.specs.Starts.{outline}
use Rattle.layout.specs.Setting.{Setting, network, listed, instance_in}
use Rattle.layout.proofs.SoundStarts.{tuples-few}
use Rattle.layout.proofs.Outline.{counts-outline, answer_for-outline}
use Rattle.request.specs.declared.plan.Plan.{Plan}
use Rattle.request.specs.Removal.{without_ids}
use Rattle.request.specs.Answer.{living_in, Covered, counts_of}
use Rattle.request.specs.Plan.{setting_of, Clear}
use Rattle.request.proofs.Removed.{without_ids-length, without_ids-living, holds-room}
use Rattle.engine.specs.Work.{Room, Filtered}
use Rattle.changes.specs.Change.{changed, Ready, PlannedOn}

-- a count of all ids
pub counted-all : (n end k : ℕ) (ws : List ℕ) → end ≡ n → k ≡ count (living_from 0 (end - 0) ws) → k ≡ count (living n ws)
unfolding living
counted-all n end k ws e f =
    let g : end - 0 ≡ n = omega arith in
    f ∙ ap (λ (l : ℕ). count (living_from 0 l ws)) g

-- ---- Removed, filtered and answered

module _ (G : Setting) (words supports counts removed : List ℕ) (ready : Ready G words supports counts removed) where
  abbrev N : Network
  N = network G

  abbrev n : ℕ
  n = total N

  abbrev cs : List Combination
  cs = listed G

  abbrev alive : TupleSet
  alive = living n words

  abbrev rest : TupleSet
  rest = without (is_live removed) alive

  abbrev kept : TupleSet
  kept = filtered N cs rest

  rest-long : length rest ≡ n
  rest-long = without-length (is_live removed) alive ∙ living-length n words

  module _ (cut : List ℕ) (cuts : cut ≡ without_ids n (is_live removed) words) where
    cut-length : length cut ≡ length words
    cut-length = ap length cuts ∙ without_ids-length n words (is_live removed)

    pub cut-living : living n cut ≡ rest
    cut-living = ap (living n) cuts ∙ without_ids-living n words (is_live removed) ready.space.enough

    pub cut-enough : n ≤ word_bits * length cut
    cut-enough = subst (λ (k : ℕ). n ≤ word_bits * k) (sym cut-length) ready.space.enough

    module _ (final numbers : List ℕ) (done : Filtered G cut supports final numbers) where
      final-words : final ≡ written n kept words
      final-words = done.0 ∙ ap₂ (λ (S : TupleSet) (ws : List ℕ). written n (filtered N cs S) ws) cut-living cuts ∙ written-written n kept rest words

      final-living : living n final ≡ kept
      final-living = ap (living n) final-words ∙ living-written n kept words (filtered-length N cs rest ∙ rest-long) ready.space.enough

      -- what the answer asks
      pub final-covered : Covered G.lists.starts final
      final-covered =
          record {
            framed = ready.sound.laid.framed;
            enough = subst (λ (k : ℕ). n ≤ word_bits * k) (sym (ap length final-words ∙ written-length n kept words)) ready.space.enough;
          }

      module _ (before after : ℕ) (b : before ≡ count alive) (a : after ≡ count (living n cut)) where
        after_is : after ≡ count rest
        after_is = a ∙ ap count cut-living

        pub final-fewer : (count (living_in G.lists.starts final) ≤ after) × (after ≤ before)
        final-fewer = (
          omega (arith, after_is, ap count final-living, filtered-count N cs rest),
          omega (arith, after_is, b, without-count (is_live removed) alive),
        )

        pub final-reply : (x : Answer) → x ≡ answer_for (outline G.lists.starts) (living_in G.lists.starts final) (counts_of before after (living_in G.lists.starts final)) → (tally : List ℕ) → tally ≡ live_counts (outline G.lists.starts) (living_in G.lists.starts final) → replied x final numbers tally ≡ changed (instance_in G) (is_live removed) words supports
        unfolding changed leaving
        final-reply x e tally f =
            let numbers_of : TupleSet → Counts = λ L. record { left = count L; withdrawn = count alive - count rest; deleted = count rest - count L } in
            let answered : x ≡ answer_for N kept (numbers_of kept) =
            e
            ∙ answer_for-outline G.lists (living n final) (counts_of before after (living n final))
            ∙ ap₂ (λ (y z : ℕ). answer_for N (living n final) (counts_of y z (living n final))) b after_is
            ∙ ap (λ (L : TupleSet). answer_for N L (numbers_of L)) final-living in
            let numbered : numbers ≡ support_list N cs kept ++ drop (needed N cs) supports =
            done.1 ∙ ap (λ (S : TupleSet). support_list N cs (filtered N cs S) ++ drop (needed N cs) supports) cut-living in
            let tallied : tally ≡ live_counts N kept = f ∙ counts-outline G.lists (living n final) ∙ ap (live_counts N) final-living in
            λ i. record { answer = answer_numbers (answered i); words = final-words i; supports = numbered i; counts = tallied i }

-- ---- The reply

-- a change whose removed ids are those of the request
module _ (q : Request) (removed : ℕ → Bool) (same : (g : ℕ) → g < total q.given.network → removed g ≡ removes q.given.network q.change g) where
  abbrev I : Instance
  I = q.given

  abbrev S : TupleSet
  S = living (total I.network) q.words

  abbrev counted : TupleSet → TupleSet → Counts
  counted R L = record { left = count L; withdrawn = count S - count R; deleted = count R - count L }

  changed-accepted : changed I removed q.words q.supports ≡ accepted q
  unfolding changed accepted remainder
  changed-accepted =
      ap (λ (R : TupleSet). leaving I (filtered I.network (combinations_of I) R) (counted R (filtered I.network (combinations_of I) R)) q.words q.supports)
      (without-cong removed (removes I.network q.change) S
      (λ g e. same g (omega (arith, has-below S g e, living-length (total I.network) q.words))))
      ∙ ap (λ (k : Counts). leaving I (remainder I q.change S) k q.words q.supports) (sym (counts_for-differences I q.change S))

  pub changed-reply : 0 ≡ refusal (first_fault (faults_on I (length q.words) (length q.supports) (untrue I.network q.words q.counts) q.change)) → changed I removed q.words q.supports ≡ reply q
  changed-reply none = changed-accepted ∙ sym (reply-accepted q (accepts-none q none))

-- ---- From a plan

module _ (p : Plan) (I : Instance) (words numbers : ℕ) (change : Change) (clear : Clear p I words numbers change) where
  abbrev pub G : Setting
  G = setting_of p.starts I

  -- what a change asks, of lists that are long enough
  pub clear-ready : (ws ss ks : List ℕ) → total (network G) ≤ word_bits * length ws → needed (network G) (listed G) ≤ length ss → length ks ≡ length (network G).relations → Ready G ws ss ks p.removed
  clear-ready ws ss ks enough room tally =
      let sound = clear.sufficient.sound in
      record {
        sound = sound;
        space = record { enough = enough; short = clear.sufficient.short; room = room };
        tally = tally;
        removal = holds-room (total (network G)) (tuples-few sound.laid.framed) (removes (network G) change) p.removed clear.holds ws enough clear.full;
      }

module _ (p : Plan) (I : Instance) (words supports counts : List ℕ) (change : Change) (planned : PlannedOn p I words supports counts change) where
  abbrev asked : Request
  asked = request I words supports counts change

  pub planned-refused : (p.fault ≡ 0 → ⊥) → refused p.fault asked ≡ reply asked
  planned-refused d = sym (reply-fault asked p.fault planned.fault d)

  -- without fault the counts are true, and so there is one for each relation
  pub planned-tally : p.fault ≡ 0 → length counts ≡ length (network (setting_of p.starts I)).relations
  planned-tally z =
      ap length (true-counts I.network words counts (accepts-true asked (accepts-none asked (sym z ∙ planned.fault))))
      ∙ counts-length I.network (living (total I.network) words)
      ∙ ap (λ (J : Instance). length J.network.relations) (sym (planned.clear z).sufficient.same)

  pub planned-reply : (z : p.fault ≡ 0) → changed (instance_in (setting_of p.starts I)) (is_live p.removed) words supports ≡ reply asked
  planned-reply z =
      let clear = planned.clear z in
      let G = setting_of p.starts I in
      subst (λ (J : Instance). ((g : ℕ) → g < total J.network → is_live p.removed g ≡ removes J.network change g) → changed J (is_live p.removed) words supports ≡ reply asked) (sym clear.sufficient.same)
      (λ same. changed-reply asked (is_live p.removed) same (sym z ∙ planned.fault))
      (λ g h.
      clear.holds g (omega (arith, tuples-few clear.sufficient.sound.laid.framed))
      ∙ ap (λ (b : Bool). b && removes (network G) change g) (lt-ltb g (total (network G)) h))

-- ---- On the needed words, and on as many numbers as are needed, whatever they are

pub changed-needed : (I : Instance) (removed : ℕ → Bool) (k : ℕ) (words supports numbers : List ℕ) → ((i : ℕ) → i < length words → get_or words i 0 < 2 ^ 64) → total I.network ≤ word_bits * k → length numbers ≡ needed I.network (combinations_of I) → changed I removed words supports ≡ restored (drop k words) (drop (needed I.network (combinations_of I)) supports) (changed I removed (take k words) numbers)
unfolding changed
changed-needed I removed k words supports numbers small enough long =
    let rest : TupleSet → TupleSet = λ S. without removed S in
    let left : TupleSet → TupleSet = λ S. filtered I.network (combinations_of I) (rest S) in
    let counts : TupleSet → Counts = λ S. record { left = count (left S); withdrawn = count S - count (rest S); deleted = count (rest S) - count (left S) } in
    let S = living (total I.network) words in
    leaving-needed I (left S) (counts S) k words supports numbers small enough long
    ∙ ap (λ (T : TupleSet). restored (drop k words) (drop (needed I.network (combinations_of I)) supports) (leaving I (left T) (counts T) (take k words) numbers))
    (sym (living-take (total I.network) k words enough))

-- ---- What it leaves is as long as what it was lent

pub changed-lengths : (I : Instance) (removed : ℕ → Bool) (words supports : List ℕ) → needed I.network (combinations_of I) ≤ length supports → (length (changed I removed words supports).words ≡ length words) × (length (changed I removed words supports).supports ≡ length supports)
unfolding changed leaving
changed-lengths I removed words supports room =
    let L = filtered I.network (combinations_of I) (without removed (living (total I.network) words)) in
    let n = needed I.network (combinations_of I) in
    let xs = support_list I.network (combinations_of I) L in
    let all : length (xs ++ drop n supports) ≡ length supports = omega (arith, length-append xs (drop n supports), support_list-length I.network (combinations_of I) L, length-drop n supports) in
    (written-length (total I.network) L words, all)
