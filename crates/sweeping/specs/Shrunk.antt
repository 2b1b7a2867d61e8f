-- What the filter's steps may do to the live words.
use Rattle.std.specs.Prelude.{◌≡◌, List, ℕ}
use Rattle.model.specs.Network.{total}
use Rattle.model.specs.Consistency.{filtered}
use Rattle.model.specs.LiveWords.{written}
use Rattle.layout.specs.Setting.{Setting, network, listed, live_in}

-- The words change only in tuples removed, and what filtering leaves of them does not change.
pub record Shrunk (G : Setting) (words after : List ℕ) : Type 0 where
  pub bits : after ≡ written (total (network G)) (live_in G after) words
  pub same : filtered (network G) (listed G) (live_in G after) ≡ filtered (network G) (listed G) (live_in G words)
