-- What calls, one after another, do to the history of a store.
use Rattle.std.proofs.Common.{◌≡◌, ⊎_elim, inl, inr, ℕ, List, Option, [], ◌++◌, refl, sym, subst, ap, ◌∙◌, append_assoc, append-nil}
use Rattle.std.specs.Prelude.{◌≢◌, ⊤, Result, Ok, Err}
use Rattle.std.proofs.KnownBytes.{Appends-nil}
use Rattle.ipc_limits.specs.declared.limits.Limits.{Limits}
use Rattle.ipc_disk.specs.Counts.{Counts}
use Rattle.ipc_disk.specs.Medium.{Image, Medium}
use Rattle.ipc_engine.specs.Event.{PlainEvent}
use Rattle.ipc_store.specs.declared.fault.CommitError.{CommitError}
use Rattle.ipc_store.specs.declared.fault.CommitError.TheVariants as commit
use Rattle.ipc_store.specs.Histories.{Takes}
use Rattle.ipc_store.specs.View.{StoreView}
use Rattle.ipc_store.proofs.CallerLemmas.{Takes-none, Takes-both}
use Rattle.ipc_hub.specs.declared.fault.ServeError.{ServeError}
use Rattle.ipc_hub.specs.declared.fault.ServeError.TheVariants as serve
use Rattle.ipc_hub.specs.Clients.{Clients}
use Rattle.ipc_hub.specs.View.{StoredHub}
use Rattle.ipc_hub.specs.Relations.Faults.{Halts, Refuses}
use Rattle.ipc_hub.specs.Relations.Matches.{Comes}
use Rattle.ipc_script.specs.declared.fault.ScriptFault.{ScriptFault}
use Rattle.ipc_script.specs.Relations.Faults.{ByFault}
use Rattle.ipc_script.specs.declared.fault.ScriptFault.TheVariants.{NoMemory, Input, Output, Device}
use Rattle.ipc_script.specs.declared.fault.ScriptFault.TheVariants.{NotFormatted, Version, Damaged}
use Rattle.ipc_script.specs.declared.fault.ScriptFault.TheVariants.{TooLong, BadLine, InUse, Unknown}
use Rattle.ipc_script.specs.Leaves.{Leaves, UnlessDisk}
use Rattle.ipc_script.specs.ByLines.{ByEnd}
use Rattle.ipc_script.specs.ByLines.HasRunLines.{None as none_run}
use Rattle.ipc_script.specs.Line.{PlainLine, lines_of}
use Rattle.ipc_script.specs.Script.{Run, start_run}
use Rattle.ipc_script.specs.Stops.LivesOn.{One}
use Rattle.ipc_script.specs.Relations.Lasts.{Lasts, LastsAs, FailsWithin, StaysCommitted, CommitsOrFails, Empties}
use Rattle.ipc_script.proofs.FaultCases.{by_fault, fault-is}

module _ {D : Type 0} (medium : D → Medium) where
  -- one call, and then another
  pub lasts-both : (old mid new : StoreView D) → Lasts medium old mid → Lasts medium mid new → Lasts medium old new
  lasts-both old mid new first next = (first.0 ++ next.0, Takes-both medium old mid new first.0 next.0 first.1 next.1)

  -- a call that accepts nothing
  pub takes-more : (old mid new : StoreView D) (events : List PlainEvent) → Takes medium old events mid → Takes medium mid [] new → Takes medium old events new
  takes-more old mid new events first next =
      subst (λ (es : List PlainEvent). Takes medium old es new) (append-nil events) (Takes-both medium old mid new events [] first next)

  -- ---- the events of a run

  pub lasts-as-both : (a b c : Clients) (old mid new : StoreView D) → LastsAs medium a b old mid → LastsAs medium b c mid new → LastsAs medium a c old new
  lasts-as-both a b c old mid new first next = record {
    events = first.events ++ next.events;
    adds = next.adds ∙ ap (λ (es : List PlainEvent). es ++ next.events) first.adds ∙ append_assoc a.events first.events next.events;
    takes = Takes-both medium old mid new first.events next.events first.takes next.takes;
  }

  pub lasts-as-more : (a b : Clients) (old mid new : StoreView D) → LastsAs medium a b old mid → Takes medium mid [] new → LastsAs medium a b old new
  lasts-as-more a b old mid new first next =
      record { events = first.events; adds = first.adds; takes = takes-more old mid new first.events first.takes next }

  pub lasts-as-none : (a b : Clients) (old new : StoreView D) → b.events ≡ a.events → Takes medium old [] new → LastsAs medium a b old new
  lasts-as-none a b old new same none = record { events = []; adds = same ∙ sym (append-nil a.events); takes = none }

  pub lasts-as-come : (limits : Limits) (a b : Clients) (old new : StoredHub D) → Comes medium limits old new a b → LastsAs medium a b old.store new.store
  lasts-as-come limits a b old new come = record { events = come.events; adds = come.adds; takes = come.takes }

  module _ (limits : Limits) (number : ℕ) (r : Run) (line : PlainLine) where
    -- a line that was done in part
    pub fails-more : (old mid new : StoreView D) → FailsWithin medium limits number r line old mid → Takes medium mid [] new
        → FailsWithin medium limits number r line old new
    fails-more old mid new (inl none) next = inl (takes-more old mid new [] none next)
    fails-more old mid new (inr some) next =
        inr (record {
          goes = some.goes;
          count = some.count;
          cut = some.cut;
          part = some.part;
          done = some.done;
          lasts = lasts-as-more r.hub some.part.run.hub old mid new some.lasts next;
        })

    pub lasts-fails : (old new : StoreView D) → FailsWithin medium limits number r line old new → Lasts medium old new
    lasts-fails old new (inl none) = ([], none)
    lasts-fails old new (inr some) = (some.lasts.events, some.lasts.takes)

  module _ (law : (d : D) (image : Image) → (medium d).images_since (medium d).moment image → (medium d).images_now image) where
    pub takes-same : (old new : StoreView D) → new ≡ old → Takes medium old [] new
    takes-same old new same = subst (Takes medium old []) (sym same) (Takes-none medium law old)

    pub lasts-none : (old : StoreView D) → Lasts medium old old
    lasts-none old = ([], Takes-none medium law old)

    -- a call that was refused
    pub takes-halted : (counts : D → Counts) (old new : StoredHub D) (e : CommitError) → Halts medium counts old new e
        → Takes medium old.store [] new.store
    takes-halted counts old new commit.Device halts = halts.0.takes
    takes-halted counts old new commit.Stopped halts = ⊎_elim
        (λ stopped. takes-same old.store new.store (ap (λ (h : StoredHub D). h.store) stopped.1))
        (λ failed. failed.0.takes)
        halts

    pub takes-refused : (counts : D → Counts) (old new : StoredHub D) (conn : ℕ) (e : ServeError) → Refuses medium counts old new conn e
        → Takes medium old.store [] new.store
    takes-refused counts old new conn serve.Unknown refuses = takes-same old.store new.store (ap (λ (h : StoredHub D). h.store) refuses.2)
    takes-refused counts old new conn serve.Device refuses = takes-halted counts old new commit.Device refuses
    takes-refused counts old new conn serve.Stopped refuses = takes-halted counts old new commit.Stopped refuses

-- nothing waits, whatever waited before
pub commits-empty : {D : Type 0} (old new : StoreView D) (e : ScriptFault) → ByFault e (new.waiting ≡ 0) ⊤ (new.waiting ≡ 0)
    → ByFault e (StaysCommitted old new) ⊤ (StaysCommitted old new)
commits-empty old new e empty = by_fault _ _ _ _ _ _ e (λ none _. none) (λ t. t) (λ none _. none) empty

pub commits-all : {A D : Type 0} (old new : StoreView D) (result : Result A ScriptFault) → Empties new result → CommitsOrFails old new result
commits-all old new (Ok a) empty = λ _. empty
commits-all old new (Err e) empty = commits-empty old new e empty

-- one thing after another
pub commits-after : {D : Type 0} (old mid new : StoreView D) (e : ScriptFault) → StaysCommitted old mid
    → ByFault e (StaysCommitted mid new) ⊤ (StaysCommitted mid new) → ByFault e (StaysCommitted old new) ⊤ (StaysCommitted old new)
commits-after old mid new e first next =
    by_fault _ _ _ _ _ _ e (λ keeps none. keeps (first none)) (λ t. t) (λ keeps none. keeps (first none)) next

-- of a line the same holds unless the disk failed
pub committed-unless : {D : Type 0} (old new : StoreView D) (e : ScriptFault) → ByFault e (StaysCommitted old new) ⊤ (StaysCommitted old new)
    → UnlessDisk e (StaysCommitted old new)
committed-unless old new NoMemory s = s
committed-unless old new Input s = absurd s
committed-unless old new Output s = s
committed-unless old new Device s = tt
committed-unless old new NotFormatted s = tt
committed-unless old new (Version found) s = tt
committed-unless old new (Damaged sector) s = tt
committed-unless old new TooLong s = s
committed-unless old new (BadLine number) s = s
committed-unless old new (InUse number) s = s
committed-unless old new (Unknown number) s = s

pub unless-any : (e : ScriptFault) (P : Type 0) → P → UnlessDisk e P
unless-any NoMemory P p = p
unless-any Input P p = p
unless-any Output P p = p
unless-any Device P p = tt
unless-any NotFormatted P p = tt
unless-any (Version found) P p = tt
unless-any (Damaged sector) P p = tt
unless-any TooLong P p = p
unless-any (BadLine number) P p = p
unless-any (InUse number) P p = p
unless-any (Unknown number) P p = p

-- a line that was not run: memory or a write failed, or the disk, or it is refused
pub ends-by : (W V P F Q : Type 0) (e : ScriptFault) → (W → F) → (V → F) → (P → Q) → ByFault e W V P → ByEnd (Err e) F Q
ends-by W V P F Q NoMemory f d g x = f x
ends-by W V P F Q Input f d g x = absurd x
ends-by W V P F Q Output f d g x = f x
ends-by W V P F Q Device f d g x = d x
ends-by W V P F Q NotFormatted f d g x = d x
ends-by W V P F Q (Version found) f d g x = d x
ends-by W V P F Q (Damaged sector) f d g x = d x
ends-by W V P F Q TooLong f d g x = g x
ends-by W V P F Q (BadLine number) f d g x = g x
ends-by W V P F Q (InUse number) f d g x = g x
ends-by W V P F Q (Unknown number) f d g x = g x

-- a script that is not begun
pub ends-any : (F Q : Type 0) (e : ScriptFault) → F → Q → ByEnd (Err e) F Q
ends-any F Q NoMemory f q = f
ends-any F Q Input f q = q
ends-any F Q Output f q = f
ends-any F Q Device f q = f
ends-any F Q NotFormatted f q = f
ends-any F Q (Version found) f q = f
ends-any F Q (Damaged sector) f q = f
ends-any F Q TooLong f q = q
ends-any F Q (BadLine number) f q = q
ends-any F Q (InUse number) f q = q
ends-any F Q (Unknown number) f q = q

pub leaves-same : {D : Type 0} (medium : D → Medium)
    (law : (d : D) (image : Image) → (medium d).images_since (medium d).moment image → (medium d).images_now image)
    (limits : Limits) (h : Clients) (script : List ℕ) (w : Option (List ℕ)) (store : StoreView D) (disk : D) (e : ScriptFault)
    → disk ≡ store.disk → store.machine.state ≡ h.state → e ≢ Device → Leaves medium limits h script w w store disk (Err e)
leaves-same medium law limits h script w store disk e same state other =
    record {
      closed = store;
      lives = One store (lasts-none medium law store);
      by_lines = record {
        number = 1;
        lines = [];
        rest = lines_of script;
        all = refl;
        last = store;
        run = start_run h;
        text = [];
        runs = none_run;
        written = ([], Appends-nil w);
        whole = tt;
        ends = ends-any _ _ e (inl (Takes-none medium law store)) (refl, state, Appends-nil w);
        halted = λ is. absurd (other (fault-is _ e Device refl is));
      };
      handed = ends-any _ _ e (inl same) same;
      one = λ stops. (lasts-none medium law store, same);
      committed = unless-any e _ (λ none. none);
      state = tt;
    }
