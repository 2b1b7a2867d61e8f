-- The contracts themselves: what each published function ensures is the definition that the statements of this crate speak of, of
-- what it is lent, a, and of what it gives and leaves, s. A contract that says anything else fails here. (Those of `records` are met in
-- their own proofs, by the law `replies-on`.)
use mathlib.Core.List.{List}
use Prim.Native.Nat.{ℕ}
use Rattle.model.specs.Request.{filter, withdraw, choose, choose_several}
use Rattle.model.specs.Reply.{verdict_numbers, comparison_numbers, request, replied, Keeps, Tested, Compared}
use Rattle.model.specs.Enumeration.{enumerated, Enumerates}
use Rattle.model.specs.Moves.{widen, narrow, KeepsMove}
use Rattle.layout.specs.Shape.{network_of, instance_of}
use Rattle.encoding.specs.Packed.{outcome}
use Rattle.encoding.specs.Call.{byte_book, byte_request, KeepsBytes, TestedBytes, ComparedBytes, listing, EnumeratesBytes}
use Rattle.byte_moves.specs.Moves.{KeepsMoveBytes}
use Rattle.moves.proofs.widen.Reads as moves-widen
use Rattle.moves.proofs.narrow.Reads as moves-narrow
use Rattle.network.proofs.comparison.compare.Reads as compare
use Rattle.enumeration.proofs.combinations.Reads as combinations
use Rattle.consistency.proofs.test.Reads as test
use Rattle.changes.proofs.filter.Reads as changes-filter
use Rattle.changes.proofs.withdraw.Reads as changes-withdraw
use Rattle.changes.proofs.choose.Reads as changes-choose
use Rattle.changes.proofs.choose_several.Reads as changes-choose-several
use Rattle.capi.proofs.wakhvosi_filter.Reads as wakhvosi-filter
use Rattle.capi.proofs.wakhvosi_withdraw.Reads as wakhvosi-withdraw
use Rattle.capi.proofs.wakhvosi_choose.Reads as wakhvosi-choose
use Rattle.capi.proofs.wakhvosi_choose_several.Reads as wakhvosi-choose-several
use Rattle.capi.proofs.wakhvosi_test.Reads as wakhvosi-test
use Rattle.capi.proofs.wakhvosi_compare.Reads as wakhvosi-compare
use Rattle.capi.proofs.wakhvosi_combinations.Reads as wakhvosi-combinations
use Rattle.capi.proofs.wakhvosi_widen.Reads as wakhvosi-widen
use Rattle.capi.proofs.wakhvosi_narrow.Reads as wakhvosi-narrow

-- ---- On lists

pub filter-keeps : (κs : _) (a : _) (r : _) (s : _) → changes-filter.Post κs a r s → Keeps (request (instance_of a.0 a.1.0.now a.1.1.0.now a.1.1.1.0 a.1.1.1.1.0.now) a.1.1.1.1.1.0.now a.1.1.1.1.1.1.0.now a.1.1.1.1.1.1.1.0.now filter) (replied r s.1.1.1.1.1.0.now s.1.1.1.1.1.1.0.now s.1.1.1.1.1.1.1.0.now)
filter-keeps κs a r s kept = kept

pub withdraw-keeps : (κs : _) (a : _) (r : _) (s : _) → changes-withdraw.Post κs a r s → Keeps (request (instance_of a.0 a.1.0.now a.1.1.0.now a.1.1.1.0 a.1.1.1.1.0.now) a.1.1.1.1.1.0.now a.1.1.1.1.1.1.0.now a.1.1.1.1.1.1.1.0.now (withdraw a.1.1.1.1.1.1.1.1.0.now)) (replied r s.1.1.1.1.1.0.now s.1.1.1.1.1.1.0.now s.1.1.1.1.1.1.1.0.now)
withdraw-keeps κs a r s kept = kept

pub choose-keeps : (κs : _) (a : _) (r : _) (s : _) → changes-choose.Post κs a r s → Keeps (request (instance_of a.0 a.1.0.now a.1.1.0.now a.1.1.1.0 a.1.1.1.1.0.now) a.1.1.1.1.1.0.now a.1.1.1.1.1.1.0.now a.1.1.1.1.1.1.1.0.now (choose a.1.1.1.1.1.1.1.1.0 a.1.1.1.1.1.1.1.1.1.0)) (replied r s.1.1.1.1.1.0.now s.1.1.1.1.1.1.0.now s.1.1.1.1.1.1.1.0.now)
choose-keeps κs a r s kept = kept

pub choose-several-keeps : (κs : _) (a : _) (r : _) (s : _) → changes-choose-several.Post κs a r s → Keeps (request (instance_of a.0 a.1.0.now a.1.1.0.now a.1.1.1.0 a.1.1.1.1.0.now) a.1.1.1.1.1.0.now a.1.1.1.1.1.1.0.now a.1.1.1.1.1.1.1.0.now (choose_several a.1.1.1.1.1.1.1.1.0.now a.1.1.1.1.1.1.1.1.1.0.now)) (replied r s.1.1.1.1.1.0.now s.1.1.1.1.1.1.0.now s.1.1.1.1.1.1.1.0.now)
choose-several-keeps κs a r s kept = kept

pub test-tested : (κs : _) (a : _) (r : _) (s : _) → test.Post κs a r s → Tested (instance_of a.0 a.1.0.now a.1.1.0.now a.1.1.1.0 a.1.1.1.1.0.now) a.1.1.1.1.1.0.now (verdict_numbers r)
test-tested κs a r s kept = kept

pub compare-compared : (κs : _) (a : _) (r : _) (s : _) → compare.Post κs a r s → Compared (network_of a.0 a.1.0.now a.1.1.0.now) a.1.1.1.0 a.1.1.1.1.0 (comparison_numbers r)
compare-compared κs a r s kept = kept

pub combinations-enumerates : (κs : _) (a : _) (r : _) (s : _) → combinations.Post κs a r s → Enumerates (network_of a.0 a.1.0.now a.1.1.0.now) a.1.1.1.0 a.1.1.1.1.0.now (enumerated r s.1.1.1.1.0.now)
combinations-enumerates κs a r s kept = kept

pub widen_keeps : (κs : _) (a : _) (r : _) (s : _) → moves-widen.Post κs a r s → KeepsMove widen (network_of a.0 a.1.0.now a.1.1.0.now) a.1.1.1.0.now r s.1.1.1.0.now
widen_keeps κs a r s kept = kept

pub narrow_keeps : (κs : _) (a : _) (r : _) (s : _) → moves-narrow.Post κs a r s → KeepsMove narrow (network_of a.0 a.1.0.now a.1.1.0.now) a.1.1.1.0.now r s.1.1.1.0.now
narrow_keeps κs a r s kept = kept

-- ---- On bytes

pub filter-keeps-bytes : (κs : _) (a : _) (r : _) (s : _) → wakhvosi-filter.Post κs a r s → KeepsBytes (byte_request (byte_book (λ (l : List ℕ). l) a.0.now a.1.0.now a.1.1.0.now a.1.1.1.0 a.1.1.1.1.0.now) a.1.1.1.1.1.0.now a.1.1.1.1.1.1.0.now filter) (outcome r s.0.now s.1.1.1.1.1.0.now s.1.1.1.1.1.1.0.now)
filter-keeps-bytes κs a r s kept = kept

pub withdraw-keeps-bytes : (κs : _) (a : _) (r : _) (s : _) → wakhvosi-withdraw.Post κs a r s → KeepsBytes (byte_request (byte_book (λ (l : List ℕ). l) a.0.now a.1.0.now a.1.1.0.now a.1.1.1.0 a.1.1.1.1.0.now) a.1.1.1.1.1.0.now a.1.1.1.1.1.1.0.now (withdraw a.1.1.1.1.1.1.1.0.now)) (outcome r s.0.now s.1.1.1.1.1.0.now s.1.1.1.1.1.1.0.now)
withdraw-keeps-bytes κs a r s kept = kept

pub choose-keeps-bytes : (κs : _) (a : _) (r : _) (s : _) → wakhvosi-choose.Post κs a r s → KeepsBytes (byte_request (byte_book (λ (l : List ℕ). l) a.0.now a.1.0.now a.1.1.0.now a.1.1.1.0 a.1.1.1.1.0.now) a.1.1.1.1.1.0.now a.1.1.1.1.1.1.0.now (choose a.1.1.1.1.1.1.1.0 a.1.1.1.1.1.1.1.1.0)) (outcome r s.0.now s.1.1.1.1.1.0.now s.1.1.1.1.1.1.0.now)
choose-keeps-bytes κs a r s kept = kept

pub choose-several-keeps-bytes : (κs : _) (a : _) (r : _) (s : _) → wakhvosi-choose-several.Post κs a r s → KeepsBytes (byte_request (byte_book (λ (l : List ℕ). l) a.0.now a.1.0.now a.1.1.0.now a.1.1.1.0 a.1.1.1.1.0.now) a.1.1.1.1.1.0.now a.1.1.1.1.1.1.0.now (choose_several a.1.1.1.1.1.1.1.0.now a.1.1.1.1.1.1.1.1.0.now)) (outcome r s.0.now s.1.1.1.1.1.0.now s.1.1.1.1.1.1.0.now)
choose-several-keeps-bytes κs a r s kept = kept

pub test-tested-bytes : (κs : _) (a : _) (r : _) (s : _) → wakhvosi-test.Post κs a r s → TestedBytes (byte_book (λ x. x.now) a.0 a.1.0 a.1.1.0 a.1.1.1.0 a.1.1.1.1.0) a.1.1.1.1.1.0.now r
test-tested-bytes κs a r s kept = kept

pub compare-compared-bytes : (κs : _) (a : _) (r : _) (s : _) → wakhvosi-compare.Post κs a r s → ComparedBytes a.0.now a.1.0.now a.1.1.0.now a.1.1.1.0 a.1.1.1.1.0 r
compare-compared-bytes κs a r s kept = kept

pub combinations-enumerates-bytes : (κs : _) (a : _) (r : _) (s : _) → wakhvosi-combinations.Post κs a r s → EnumeratesBytes (byte_book (λ (l : List ℕ). l) a.0.now a.1.0.now a.1.1.0.now a.1.1.1.0 a.1.1.1.1.0.now) (listing r s.1.1.1.1.0.now)
combinations-enumerates-bytes κs a r s kept = kept

pub widen-keeps-bytes : (κs : _) (a : _) (r : _) (s : _) → wakhvosi-widen.Post κs a r s → KeepsMoveBytes widen a.0.now a.1.0.now a.1.1.0.now a.1.1.1.0.now r s.1.1.1.0.now
widen-keeps-bytes κs a r s kept = kept

pub narrow-keeps-bytes : (κs : _) (a : _) (r : _) (s : _) → wakhvosi-narrow.Post κs a r s → KeepsMoveBytes narrow a.0.now a.1.0.now a.1.1.0.now a.1.1.1.0.now r s.1.1.1.0.now
narrow-keeps-bytes κs a r s kept = kept
