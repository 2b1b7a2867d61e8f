-- `add_value` goes digit by digit, by the laws of any hash's rows, and of one number more.
use Rattle.std.proofs.Common.{◌≡◌, List, ℕ, ◌<◌, false, sym, ◌∙◌, ap, arith}
use Rattle.model.specs.Agreement.{is_any}
use Rattle.value_index.specs.Plan.{digit_count, hash_behind, hash_at, row_of}
use Rattle.value_index.proofs.ValueRows.{hash-below, hash-next, row_is}
use Rattle.narrowing.specs.TupleRows.{ValueRow}
use Rattle.narrowing.proofs.TupleRows.{adds-more, value-within}
use Rattle.narrowing.proofs.rows.add_value.Goals as goal

-- the row of the digit reached
value-row : {index : List ℕ} {start v first : ℕ} (i hash : ℕ) → is_any v ≡ false → (start ≡ 0 → ⊥) → i < digit_count index → hash ≡ hash_at index v i → first ≡ row_of index start hash i → ValueRow index start v first
value-row {index} {start} {v} i hash definite some few e begins =
    record { definite = definite; some = some; digit = i; few = few; begins = begins ∙ row_is index start v i hash e }

pub row_of-requires : goal.row_of-requires
row_of-requires c =
    let a = c.args in
    (c.requires.1.0, (c.requires.1.1.1 c.if-start-eq0.false, (omega (arith, hash-below a.index.now a.value c.loop-i.i), omega arith)))

pub overflow_cast-rows : goal.overflow_cast-rows
overflow_cast-rows c =
    let row = value-row c.loop-i.i c.loop-i.hash (sym c.is_any.ensures ∙ c.if-is_any.false) c.if-start-eq0.false (omega arith) c.loop-i.invariant.left c.row_of.ensures in
    omega (arith, value-within c.requires.1.0 c.requires.1.1.1 row)

pub hash_behind-hash-requires : goal.hash_behind-hash-requires
hash_behind-hash-requires c = (c.requires.1.0, omega (arith, hash-below c.args.index.now c.args.value c.loop-i.i))

pub loop-i-preserved : goal.loop-i-preserved
loop-i-preserved c =
    let l = c.loop-i in
    let a = c.args in
    record {
      row = omega arith;
      left = c.hash_behind-hash.ensures ∙ ap (hash_behind a.index.now) l.invariant.left ∙ sym (hash-next a.index.now a.value l.i);
      adds = adds-more a.n l.k c.row_of.result a.rows.now l.rows (omega arith) (omega arith)
          (value-row l.i l.hash (sym c.is_any.ensures ∙ c.if-is_any.false) c.if-start-eq0.false (omega arith) l.invariant.left c.row_of.ensures) l.invariant.adds;
    }
