-- The members of a pair's combination are numbers of relations.
-- From the laws of pairs.
use mathlib.Core.List.{List}
use Prim.Native.Nat.{ℕ, ◌<◌}
use lib.ListN.{length}
use Rattle.layout.specs.Starts.{SoundStarts}
use Rattle.layout.specs.Setting.{SoundPairs}
use Rattle.layout.proofs.Pairs.{member_below, base-within}
use Rattle.spreading.specs.Spread.{PairNumbers}

pub pair-numbers : {starts : List ℕ} → SoundStarts starts → {m : ℕ} {members : List ℕ} → SoundPairs starts m members → (p : ℕ) → p < length members → PairNumbers members m p
pair-numbers framed paired p h =
    record {
      positive = paired.list.positive;
      few = paired.list.few;
      within = base-within framed paired p h;
      numbers = λ j l. member_below framed paired j l;
    }
