-- From what `fresh_after` ensures; the bound is the id of tuple t, or the end of the member's ids.
use Rattle.std.proofs.Common.{◌≡◌, List, ℕ, ◌++◌, ◌∙◌, ap₂, refl, arith}
use mathlib.Core.List.{append-nil}
use lib.ListN.{drop_of_length-le}
use lib.Seq.{take_all}
use Rattle.model.proofs.Bools.{not-both}
use Rattle.support.proofs.Walking.{few-tuples, member-start, member-end, member-within}
use Rattle.support.proofs.note.Goals as goal
use Rattle.support.proofs.note.Goals.{then-found, else-found}

pub overflow_add-bound : goal.overflow_add-bound
overflow_add-bound c =
    let N = c.requires.1 in
    let k = c.args.k in
    omega (arith, c.tuple_start.ensures, member-start _ N.sound k N.inside, member-within _ N.sound k N.inside, few-tuples _ N.sound, N.index c.if-found.true)

pub fresh_after-now-requires : goal.fresh_after-now-requires
fresh_after-now-requires c =
    let N = c.requires.1 in
    let k = c.args.k in
    let start = member-start _ N.sound k N.inside in
    let end = member-end _ N.sound k N.inside in (
      c.requires.0.0,
      record {
        low = N.low;
        sound = N.sound;
        bounded = elim c.if-found.branch [ then-found w ↦ omega (arith, w.bound-is, w.tuple_start.ensures, start) | else-found w ↦ omega (arith, w.bound-is, c.tuple_start-bound.ensures, end) ];
      },
    )

pub returns : goal.returns
returns c =
    let a = c.args in
    let N = c.requires.1 in
    let E = c.fresh_after-now.ensures in
    let now = c.fresh_after-now.result in
    let start = member-start _ N.sound a.k N.inside in
    let e : c.put_back.new.words ≡ now =
    c.put_back.ensures
    ∙ ap₂ (λ (x y : List ℕ). x ++ y) (take_all 64 now (omega (arith, E.0))) (drop_of_length-le a.fresh.now {i = 64} (omega (arith, c.requires.0.1)))
    ∙ append-nil now
    in
    rw e record {
      long = E.0;
      agrees = λ i z h d l g. (E.1 i z h d l g).0;
      below = λ e z h d l g.
          let b = (E.1 a.k z h d l g).1 refl in
          elim c.if-found.branch [ then-found w ↦ omega (arith, b, w.bound-is, w.tuple_start.ensures, start) | else-found w ↦ absurd (not-both e w.if-found.false) ];
    }
