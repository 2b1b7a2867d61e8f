-- A text written at the front of a buffer, as the published contracts say it.
-- From the laws of appended texts.
use mathlib.Core.Path.{◌≡◌, sym}
use mathlib.Core.List.{List, ◌++◌}
use Prim.Native.Nat.{ℕ, ◌≤◌}
use lib.ListN.{length, take, drop}
use lib.Seq.{length-take-le}
use Rattle.printing.specs.Appended.{Appended}
use Rattle.printing.proofs.Appended.{appended-same, appended-whole}

pub written : {lines before after : List ℕ} {n : ℕ} (text : List ℕ) → lines ≡ text → Appended lines before 0 after n
    → ((n ≤ length after) × (n ≡ length (take n after))) × ((n ≡ length text) × (after ≡ text ++ drop n before))
written text e a = ((a.fits, sym (length-take-le _ _ a.fits)), appended-whole (appended-same e a))
