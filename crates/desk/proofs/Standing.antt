-- A text that was read into lists: what then stands there, and that it is in range.
-- From what the reading ensures.
use mathlib.Core.Path.{◌≡◌, sym, ap, ◌∙◌}
use mathlib.Core.Bool.{Bool, true, cond}
use mathlib.Core.Option.{none, some}
use mathlib.Core.List.{List}
use Prim.Native.Nat.{ℕ}
use lib.ListN.{take}
use Rattle.model.specs.Request.{Instance}
use Rattle.model.specs.Text.{writable}
use Rattle.model.specs.Reading.{read}
use Rattle.model.proofs.Reading.{read-sound}
use Rattle.layout.specs.Shape.{instance_of}
use Rattle.reading.specs.declared.Book.{Book}
use Rattle.reading.specs.Book.{Standing}
use Rattle.desk.specs.Opened.{Opened}

-- the instance in the lists
abbrev pub instance_in : Book → List ℕ → List ℕ → List ℕ → Instance
instance_in b variables values members =
    instance_of b.shape (take b.variables variables) (take b.values values) b.m (take b.members members)

module _ {text : List ℕ} {b : Book} {variables values members : List ℕ} (o : Opened text b variables values members) where
  -- whether the text is in the form decides what was read
  pub opened-read : (ok : Bool) → b.ok ≡ ok → cond ok (some (instance_in b variables values members)) none ≡ read text
  opened-read ok e = sym (ap (λ (k : Bool). cond k (some (instance_in b variables values members)) none) e) ∙ o.is_read

  pub opened-writable : b.ok ≡ true → writable (instance_in b variables values members) ≡ true
  opened-writable e = (read-sound text (instance_in b variables values members) (sym (opened-read true e))).0

-- ---- The lists of fields

module _ {text : List ℕ} {b : Book} {fields₀ fields values₀ values listed₀ listed : List ℕ} (s : Standing text b fields₀ fields values₀ values listed₀ listed) where
  pub standing-writable : b.ok ≡ true → writable (instance_in b fields values listed) ≡ true
  standing-writable e =
      (read-sound text (instance_in b fields values listed) (sym s.is_read ∙ ap (λ (k : Bool). cond k (some (instance_in b fields values listed)) none) e)).0
