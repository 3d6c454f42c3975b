-- What the parts of the reader of records find. No public clause speaks of these.
use Rattle.std.specs.Prelude.{◌≡◌, ℕ, List}
use Rattle.ipc_engine.specs.Event.{PlainEvent, moment_of}
use Rattle.ipc_image.specs.Records.{kind_of, details, text_of, HasDetails, HasRecord}

-- the bytes are the record of an event without its length
pub record IsText (text : List ℕ) (e : PlainEvent) : Type 0 where
  pub has : HasRecord e
  pub text_is : text ≡ text_of e

-- the event has this kind, this moment and these details
pub record IsOf (kind moment : ℕ) (bytes : List ℕ) (e : PlainEvent) : Type 0 where
  pub has : HasDetails e
  pub kind_is : kind ≡ kind_of e
  pub moment_is : moment ≡ moment_of e
  pub details_are : bytes ≡ details e
