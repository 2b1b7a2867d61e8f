-- The change that a call makes.
use Rattle.std.specs.Prelude.{List, ℕ}
use Rattle.model.specs.Request.{Change, filter, withdraw, choose, choose_several}
use Rattle.byte_calls.specs.declared.change.Call.{Call}
use Rattle.byte_calls.specs.declared.change.Call.TheVariants as call

-- its ids, or its variables, are the bytes listed, and its values the bytes chosen
unfoldable pub change_in : Call → List ℕ → List ℕ → Change
change_in call.Filter listed chosen = filter
change_in call.Withdraw listed chosen = withdraw listed
change_in (call.Choose x v) listed chosen = choose x v
change_in call.ChooseSeveral listed chosen = choose_several listed chosen
