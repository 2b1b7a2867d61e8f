-- From the laws of a word joined.
use Rattle.std.proofs.Common.{Bool, true, sym, ℕ, ◌+◌, ◌*◌, arith, get_or}
use mathlib.Core.Bool.{and-true}
use Rattle.model.specs.LiveWords.{is_set}
use Rattle.narrowing.proofs.Gathered.{joins-none, joins-on, joins_part}
use Rattle.spreading.proofs.fresh.join.Goals as goal

-- every id passes
abbrev whole : ℕ → Bool
whole _ = true

pub loop-i-init : goal.loop-i-init
loop-i-init c = joins-none whole c.args.words.now 0 0 c.args.sum.now (omega arith) c.requires.1

pub loop-i-preserved : goal.loop-i-preserved
loop-i-preserved c =
    let l = c.loop-i in
    let words = c.args.words.now in
    joins-on whole words 0 (64 * l.i) (64 * (l.i + 1)) c.args.sum.now l.sum _ l.invariant
    (joins_part whole words l.i (64 * l.i) (64 * (l.i + 1)) (get_or words l.i 0) l.sum l.invariant.long (omega arith) (omega arith) (omega arith) (λ j h _ _. sym (and-true (is_set (get_or words l.i 0) j))))
