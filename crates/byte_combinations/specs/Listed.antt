-- What the listing of combinations gives and leaves of the bytes lent, on whole lists.
use Rattle.std.specs.Prelude.{◌≡◌, List, ℕ}
use Rattle.model.specs.Network.{Network}
use Rattle.model.specs.Enumeration.{enumeration_reply}
use Rattle.wire.specs.Entries.{entries16}
use Rattle.encoding.specs.Call.{listing, listing_bytes}

-- combinations are the bytes lent, and combinations' what is left of them
abbrev pub Lists : ℕ → Network → ℕ → List ℕ → List ℕ → Type 0
Lists n N m combinations combinations' =
    listing n combinations' ≡ listing_bytes (enumeration_reply N m (entries16 combinations)) m combinations
