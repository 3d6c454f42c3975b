-- What there is to write when the disk has failed.
use Rattle.std.proofs.Common.{◌≡◌, ℕ, ◌≤◌, List, [], ◌∷◌, ◌++◌, length, take, map, Option, Some, None, IfSome, inl, inr, refl, sym, ap, subst, ◌∙◌, arith}
use Rattle.std.proofs.Common.{append-nil}
use Rattle.std.specs.Prelude.{All, nat_le, option_map}
use Rattle.std.specs.Io.KnownBytes.{Appends}
use Rattle.std.proofs.KnownBytes.{Appends-trans}
use Rattle.std.proofs.lemmas.Bool.Decides.{nat_tests}
use Rattle.std.proofs.lemmas.List.{length-take-le}
use Rattle.std.proofs.lemmas.List.Elements.{All-nil, All-cons, All-head, All-tail}
use Rattle.ipc_base.specs.declared.errno.Errno.TheVariants.{EIO}
use Rattle.ipc_limits.specs.declared.limits.Limits.{Limits}
use Rattle.ipc_base.specs.Table.{ArePaired, keys_of, seen_as}
use Rattle.ipc_base.proofs.CallerLemmas.{test_cases as test, at-map, keys-map}
use Rattle.ipc_disk.specs.Counts.{Counts}
use Rattle.ipc_disk.specs.Medium.{Medium}
use Rattle.ipc_wire.specs.Reply.{reply_bytes}
use Rattle.ipc_engine.specs.View.{reply_of}
use Rattle.ipc_store.specs.declared.fault.CommitError.{CommitError}
use Rattle.ipc_store.specs.declared.fault.CommitError.TheVariants as commit
use Rattle.ipc_hub.specs.declared.fault.ServeError.{ServeError}
use Rattle.ipc_hub.specs.declared.fault.ServeError.TheVariants as serve
use Rattle.ipc_hub.specs.Clients.{Client, Frame, accepted, client_at, confirmed_frames, cut_off, fail, refusal}
use Rattle.ipc_hub.specs.Relations.Faults.{Fails, FailsBy, Halts, Refuses}
use Rattle.ipc_hub.specs.Relations.Matches.{ClientMatches, HubMatches, IsFrame}
use Rattle.ipc_hub.specs.View.{ConnectionView, StoredHub}
use Rattle.ipc_script.specs.declared.fault.ScriptFault.TheVariants.{Device, Unknown}
use Rattle.ipc_script.specs.declared.report.Opened.{Opened}
use Rattle.ipc_script.specs.Halting.{HaltsIn, IsBegun, last_words}
use Rattle.ipc_script.specs.Halting.IsBegun.{None as none_begun}
use Rattle.ipc_script.specs.Halting.IsDone.{None as none_done}
use Rattle.ipc_script.specs.Line.{PlainLine}
use Rattle.ipc_script.specs.Script.{Run, WritesPart}
use Rattle.ipc_script.specs.Relations.Faults.{of_serve_error}
use Rattle.ipc_script.specs.Relations.Matches.{CanReport, HaltsAt, HasWholeFrames, MatchesFailed, RunMatches, opened_of}
use Rattle.ipc_script.specs.Relations.Numbers.{HasNumbers}
use Rattle.ipc_script.proofs.NumbersSpent.{goes-on}

-- ---- a run of which all is confirmed

pub can-report : {D : Type 0} (limits : Limits) (hub : StoredHub D) (opened : List Opened) (r : Run) → RunMatches limits hub opened r
    → hub.store.confirmed ≡ accepted r.hub → CanReport limits hub.hub opened r
can-report limits hub opened r i all = record {
  matches = subst (λ (n : ℕ). HubMatches limits n hub.hub r.hub) all i.matches.hub;
  kept = i.kept;
  whole = i.whole;
  rising = i.rising;
}

-- ---- a hub that has failed

-- each frame of a client that was cut off is of a confirmed event
abbrev IsOf : ℕ → Frame → Type 0
IsOf n f = (f.mark ≤ n) × IsFrame f.bytes

one-few : (n m k : ℕ) (last : Frame) → n ≤ k → last.mark ≤ n → All (IsOf m) (last ∷ []) → All (IsOf k) (last ∷ [])
one-few n m k last le at all =
    All-cons (IsOf k) last [] (omega (arith, le, at), (All-head (IsOf m) last [] all).1) (All-nil (IsOf k))

marks-few : (n m k : ℕ) (last : Frame) → n ≤ k → last.mark ≤ n → (fs : List Frame) → All (IsOf m) (confirmed_frames n fs ++ last ∷ [])
    → All (IsOf k) (confirmed_frames n fs ++ last ∷ [])
marks-few n m k last le at [] all = one-few n m k last le at all
marks-few n m k last le at (f ∷ fs) all =
    elim (test (nat_le f.mark n)) [
      | inl t ↦
          let here : All (IsOf m) (f ∷ (confirmed_frames n fs ++ last ∷ [])) = rw t at all in
          let low : f.mark ≤ n = grind (arith, nat_tests, t) in
          rw t (All-cons (IsOf k) f (confirmed_frames n fs ++ last ∷ [])
          (omega (arith, low, le), (All-head (IsOf m) f (confirmed_frames n fs ++ last ∷ []) here).1)
          (marks-few n m k last le at fs (All-tail (IsOf m) f (confirmed_frames n fs ++ last ∷ []) here)))
      | inr t ↦ let here : All (IsOf m) (last ∷ []) = rw t at all in rw t (one-few n m k last le at here)
    ]

cut-few : (n m k : ℕ) (v : ConnectionView) (c : Client) → n ≤ k → ClientMatches n m v (cut_off n c) → ClientMatches n k v (cut_off n c)
cut-few n m k v c le i = record {
  process = i.process;
  input = i.input;
  ended = i.ended;
  kept = i.kept;
  visible = i.visible;
  seen = i.seen;
  frames = marks-few n m k (record { mark = n; bytes = reply_bytes (reply_of (refusal 0 EIO)) }) le (omega arith) c.frames i.frames;
}

all-few : (n m k : ℕ) → n ≤ k → (vs : List (ℕ × ConnectionView)) (cs : List (ℕ × Client)) → ArePaired (ClientMatches n m) vs (seen_as (cut_off n) cs)
    → ArePaired (ClientMatches n k) vs (seen_as (cut_off n) cs)
all-few n m k le [] [] p = p
all-few n m k le [] (c ∷ cs) p = absurd p
all-few n m k le (v ∷ vs) [] p = absurd p
all-few n m k le (v ∷ vs) (c ∷ cs) p = (p.0, (cut-few n m k v.1 c.1 le p.1.0, all-few n m k le vs cs p.1.1))

cut-whole : (n : ℕ) (o : Option Client) → IfSome o HasWholeFrames → IfSome (option_map (cut_off n) o) HasWholeFrames
cut-whole n None whole = tt
cut-whole n (Some c) whole = whole

-- a run whose hub has failed, with those of its events that were confirmed
abbrev pub failed_run : ℕ → Run → Run
failed_run n r = record r { hub = record (fail n r.hub) { events = take n r.hub.events } }

-- all that is kept then can be written
pub failed-report : {D : Type 0} (limits : Limits) (hub : StoredHub D) (opened : List Opened) (r : Run) → MatchesFailed limits hub opened r
    → CanReport limits hub.hub opened (failed_run hub.store.confirmed r)
failed-report limits hub opened r f =
    let n = hub.store.confirmed in
    let keys : keys_of (seen_as (cut_off n) r.hub.clients) ≡ keys_of r.hub.clients = keys-map (cut_off n) r.hub.clients in
    let few : length (take n r.hub.events) ≡ n = length-take-le n r.hub.events f.matches.known in
    let all : HubMatches limits n hub.hub (failed_run n r).hub = record {
      same = f.matches.same;
      state = f.matches.state;
      clients = all-few n (length r.hub.events) (length (take n r.hub.events)) (omega (arith, few)) hub.hub.connections r.hub.clients f.matches.clients;
      known = omega (arith, few);
    } in
    record {
      matches = subst (λ (k : ℕ). HubMatches limits k hub.hub (failed_run n r).hub) (sym few) all;
      kept = f.kept ∙ ap (map (opened_of r.told)) (sym keys);
      whole = λ conn. subst (λ (o : Option Client). IfSome o HasWholeFrames) (sym (at-map (cut_off n) r.hub.clients conn))
          (cut-whole n (client_at r.hub conn) (f.whole conn));
      rising = rw keys f.rising;
    }

-- ---- a call that has met the failure

pub matches-failed : {D : Type 0} (medium : D → Medium) (limits : Limits) (old new : StoredHub D) (opened : List Opened) (r : Run) → Fails medium old new
    → RunMatches limits old opened r → MatchesFailed limits new opened r
matches-failed medium limits old new opened r f i = record {
  matches = subst (λ (n : ℕ). HubMatches limits n new.hub (fail n r.hub)) (sym f.unconfirmed) (f.matches limits r.hub i.matches);
  kept = i.kept;
  whole = i.whole;
  rising = i.rising;
}

-- whatever the fault
pub fails-by : {D : Type 0} (medium : D → Medium) (counts : D → Counts) (old new : StoredHub D) (e : CommitError) → FailsBy medium counts old new e
    → Fails medium old new
fails-by medium counts old new commit.Device fails = fails.0
fails-by medium counts old new commit.Stopped fails = fails.0

not-unknown : (number : ℕ) → Unknown number ≡ Device → ⊥
not-unknown number is = cc

module _ {D : Type 0} (medium : D → Medium) (counts : D → Counts) (n : ℕ) (old new : StoredHub D) (has : HasNumbers n old.store) where
  pub halts-fails : (e : CommitError) → Halts medium counts old new e → Fails medium old new
  halts-fails commit.Device halts = halts.0
  halts-fails commit.Stopped (inl stopped) = absurd (goes-on n old has stopped.0)
  halts-fails commit.Stopped (inr failed) = failed.0

  pub refuses-fails : (conn : ℕ) (e : ServeError) (number : ℕ) → of_serve_error e number ≡ Device → Refuses medium counts old new conn e
      → Fails medium old new
  refuses-fails conn serve.Unknown number is refuses = absurd (not-unknown number is)
  refuses-fails conn serve.Device number is refuses = halts-fails commit.Device refuses
  refuses-fails conn serve.Stopped number is refuses = halts-fails commit.Stopped refuses

-- ---- what was written

-- nothing of the line by then
pub halted-at : {D : Type 0} (limits : Limits) (r : Run) (line : PlainLine) (hub : StoredHub D) (opened : List Opened) (w0 w1 : Option (List ℕ))
    (now : Run) → Appends w0 w1 [] → IsBegun limits r 0 line now → MatchesFailed limits hub opened now → HaltsAt limits r line hub opened w0 w1
halted-at limits r line hub opened w0 w1 now none begun failed = record {
  place = 0;
  part = record { text = []; run = r };
  done = none_done line;
  now = now;
  begun = begun;
  failed = failed;
  written = none;
}

-- and nothing of it, nor what the connections had to say
pub halts-none : (limits : Limits) (r : Run) (line : PlainLine) (n : ℕ) (text : List ℕ) (w0 w1 : Option (List ℕ)) → Appends w0 w1 text
    → HaltsIn limits r line n text w0 w1
halts-none limits r line n text w0 w1 told = record {
  place = 0;
  part = record { text = []; run = r };
  done = none_done line;
  now = r;
  begun = none_begun line;
  words = [];
  others = last_words n r;
  begins = refl;
  written = subst (Appends w0 w1) (sym (append-nil text)) told;
}

pub halts-in : {D : Type 0} (limits : Limits) (r : Run) (line : PlainLine) (hub : StoredHub D) (opened : List Opened) (w0 w1 w2 : Option (List ℕ))
    → (h : HaltsAt limits r line hub opened w0 w1) → WritesPart w1 w2 (last_words hub.store.confirmed h.now)
    → HaltsIn limits r line hub.store.confirmed [] w0 w2
halts-in limits r line hub opened w0 w1 w2 h part = record {
  place = h.place;
  part = h.part;
  done = h.done;
  now = h.now;
  begun = h.begun;
  words = part.0;
  others = part.1;
  begins = sym part.2;
  written = Appends-trans w0 w1 w2 h.part.text part.0 h.written part.3;
}

-- after the text of the lines before
pub halts-beyond : (limits : Limits) (r : Run) (line : PlainLine) (n : ℕ) (text : List ℕ) (w0 w1 w2 : Option (List ℕ)) → Appends w0 w1 text
    → HaltsIn limits r line n [] w1 w2 → HaltsIn limits r line n text w0 w2
halts-beyond limits r line n text w0 w1 w2 told h = record {
  place = h.place;
  part = h.part;
  done = h.done;
  now = h.now;
  begun = h.begun;
  words = h.words;
  others = h.others;
  begins = h.begins;
  written = Appends-trans w0 w1 w2 text (h.part.text ++ h.words) told h.written;
}
