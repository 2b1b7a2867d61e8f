-- From the laws of a list whose elements are replaced one by one.
use Rattle.std.proofs.Common.{◌≡◌, ℕ, ◌+◌, ◌<◌, ◌≤◌, Bool, cond, List, ◌++◌, length, take, drop, replicate, sym, ap, ◌∙◌, subst, arith}
use native.Mathlib.Decide.{dec_lt}
use native.Mathlib.Nat.{zero-add}
use lib.ListN.{length-drop}
use lib.Seq.{paste, get_or-drop}
use borrow.Author.Tests.{lt-ltb, le-ltb}
use Rattle.worklist.proofs.Stretch.{Copied, upto, drop-replicate, copied_more}
use Rattle.worklist.proofs.list.load.Goals as goal
use Rattle.worklist.proofs.list.load.Goals.{then-j-m, else-j-m}

upto-below : (j m : ℕ) → j ≤ m → upto j m ≡ j
upto-below j m h = go (dec_lt j m)
  where
    go : Dec (j < m) → upto j m ≡ j
    go (yes l) = ap (λ (b : Bool). cond b j m) (lt-ltb j m l)
    go (no l) = ap (λ (b : Bool). cond b j m) (le-ltb j m (omega arith)) ∙ omega arith

upto-past : (j m : ℕ) → m ≤ j → upto j m ≡ m
upto-past j m h = ap (λ (b : Bool). cond b j m) (le-ltb j m h)

pub loop-j-preserved : goal.loop-j-preserved
loop-j-preserved c =
    let a = c.args in
    let l = c.loop-j in
    let rest = drop a.at a.numbers.now in
    let now : List ℕ → Type 0 = Copied (replicate 4 0) 0 rest (upto (l.j + 1) a.m) in
    elim c.if-j-m.branch [
      | then-j-m w ↦
          let t : l.j < a.m = w.if-j-m.true in
          let done = subst (λ (n : ℕ). Copied (replicate 4 0) 0 rest n l.tuples) (upto-below l.j a.m (omega arith)) l.invariant in
          let h : l.j < length rest = omega (arith, length-drop a.at a.numbers.now) in
          let more = copied_more (replicate 4 0) 0 rest l.j _ l.tuples (omega arith) h (sym (get_or-drop a.at a.numbers.now l.j 0)) done in
          rw (w.tuples-is, upto-below (l.j + 1) a.m (omega arith)) (rw (zero-add l.j) at more)
      | else-j-m w ↦
          let f : a.m ≤ l.j = w.if-j-m.false in
          rw (w.tuples-is, upto-past (l.j + 1) a.m (omega arith)) (rw (upto-past l.j a.m f) at l.invariant)
    ]

pub returns : goal.returns
returns c =
    let a = c.args in
    let l = c.loop-j in
    let rest = drop a.at a.numbers.now in
    l.invariant.1
    ∙ ap (paste (replicate 4 0) 0 rest) (upto-past l.j a.m (omega arith))
    ∙ ap (λ (k : ℕ). take a.m rest ++ drop k (replicate 4 0)) (zero-add a.m)
    ∙ ap (λ (xs : List ℕ). take a.m rest ++ xs) (drop-replicate a.m 4 0)
