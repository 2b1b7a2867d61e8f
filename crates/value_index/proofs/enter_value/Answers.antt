use Rattle.std.proofs.Common.{◌≡◌, ◌+◌, ◌<◌, ℕ, ◌∙◌, sym, ap, subst, arith}
use Rattle.std.proofs.lemmas.Grind.{common_steps}
use Rattle.value_index.specs.Plan.{hashes, digit_count, row_plan, hash_behind}
use Rattle.value_index.specs.declared.digits.RowPlan.{RowPlan}
use Rattle.value_index.specs.Index.{Grows, Laid}
use Rattle.value_index.proofs.ValueRows.{hash-below, hash-next, hash-same, plan-same, column-same, row_within, row-behind, row_is}
use Rattle.value_index.proofs.Entries.{InRows, grows_one, grows-on, laid_on, rows_more, rows_all}
use Rattle.value_index.proofs.enter_value.Goals as goal
use Rattle.value_index.proofs.enter_value.Goals.{In-loop-i, After-enter}

-- what is left of the hash is one, and the digit reached is one
below : (c : In-loop-i) → c.loop-i.hash < hashes
below c = omega (arith, c.loop-i.invariant.left, hash-below c.loop-i.index c.args.value c.loop-i.i)

reached : (c : In-loop-i) → c.loop-i.i < digit_count c.loop-i.index
reached c = omega (arith, ap (λ (p : RowPlan). p.digits) c.loop-i.invariant.planned)

-- the row reached is entered
one : (c : After-enter) → Grows c.loop-i.index c.enter.new.index
one c = grows_one c.loop-i.index c.enter.new.index _ c.enter.ensures.1.0 c.enter.ensures.1.1

still : (c : After-enter) → Laid c.enter.new.index (c.args.g + 1)
still c = laid_on c.loop-i.index c.enter.new.index _ (one c) c.enter.ensures.0 c.loop-i.invariant.laid

still-planned : (c : After-enter) → c.args.plan ≡ row_plan c.enter.new.index
still-planned c = c.loop-i.invariant.planned ∙ sym (plan-same c.loop-i.index c.enter.new.index c.enter.ensures.1.0)

pub row_of-requires-clause-sound_plan : goal.row_of-requires-clause-sound_plan
row_of-requires-clause-sound_plan c = let h = below (goal.at.row_of-requires-clause-sound_plan c).In-loop-i in grind (arith, common_steps, h)

pub enter-requires : goal.enter-requires
enter-requires c =
    let i = c.loop-i.invariant in
    let t = (goal.at.enter-requires c).In-loop-i in
    let behind = row-behind i.laid.plan c.loop-i.hash (below t) c.loop-i.i (reached t) i.column in
    let within = row_within i.laid.plan c.loop-i.hash (below t) c.loop-i.i (reached t) i.column in
    (i.laid.full, (omega (arith, c.row_of.ensures, behind), omega (arith, c.row_of.ensures, within, i.laid.bits)))

pub hash_behind-hash-requires : goal.hash_behind-hash-requires
hash_behind-hash-requires c =
    let e = (goal.at.hash_behind-hash-requires c).After-enter in
    ((still e).plan, (still-planned e, below (goal.at.hash_behind-hash-requires c).In-loop-i))

pub loop-i-preserved : goal.loop-i-preserved
loop-i-preserved c =
    let e = (goal.at.loop-i-preserved c).After-enter in
    let l = c.loop-i in
    let a = c.args in
    let new = c.enter.new.index in
    let same = c.enter.ensures.1.0 in record {
      laid = still e;
      column = column-same l.index new same a.start l.invariant.column;
      planned = still-planned e;
      left = c.hash_behind-hash.ensures ∙ ap (hash_behind new) (l.invariant.left ∙ sym (hash-same l.index new same a.value l.i)) ∙ sym (hash-next new a.value l.i);
      grown = grows-on a.index.now l.index new l.invariant.grown (one e);
      entered = rows_more l.index new a.start a.value l.i a.g _ (omega (arith, c.row_of.ensures, row_is l.index a.start a.value l.i l.hash l.invariant.left)) same c.enter.ensures.1.1 l.invariant.entered;
    }

pub returns : goal.returns
returns c =
    let l = c.loop-i in
    let a = c.args in
    let e : l.i ≡ digit_count l.index = omega (arith, ap (λ (p : RowPlan). p.digits) l.invariant.planned) in
    (l.invariant.laid.full, (l.invariant.grown, rows_all l.index a.start a.value a.g (subst (λ (n : ℕ). InRows l.index a.start a.value n a.g) e l.invariant.entered)))
