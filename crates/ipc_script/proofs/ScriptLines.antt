-- The lines of a script, run one after the other.
use Rattle.std.proofs.Common.{◌≡◌, ℕ, ◌+◌, ◌<◌, ◌≤◌, Bool, true, false, drop, List, [], ◌∷◌, ◌++◌, length, Option, Some, None, refl, sym, ap, ◌∙◌}
use Rattle.std.proofs.Common.{inl, inr, subst, append_assoc, append-nil, arith, map, take}
use Rattle.std.proofs.Math.Seq.{take-append_seam}
use Rattle.std.specs.Prelude.{◌≢◌, ◌⊎◌, Ok, Err, Result, ⊤, IfSome, OnOk, All, if◌then◌else◌}
use Rattle.std.specs.Io.KnownBytes.{Appends}
use Rattle.std.proofs.KnownBytes.{Appends-nil, Appends-trans}
use Rattle.std.proofs.lemmas.List.{length-append}
use Rattle.std.proofs.lemmas.List.Elements.{All-head, All-tail}
use Rattle.ipc_limits.specs.declared.limits.Limits.{Limits}
use Rattle.ipc_base.specs.Table.{keys_of}
use Rattle.ipc_disk.specs.Medium.{Image, Medium, IsHonest}
use Rattle.ipc_state.specs.State.{restart}
use Rattle.ipc_engine.specs.Event.{Restart}
use Rattle.ipc_hub.specs.View.{StoredHub}
use Rattle.ipc_hub.specs.Clients.{Client, Clients, no_clients, hangup}
use Rattle.ipc_hub.specs.Relations.Matches.{StoredMatches}
use Rattle.ipc_script.specs.declared.fault.ScriptFault.{ScriptFault}
use Rattle.ipc_script.specs.declared.report.Opened.{Opened}
use Rattle.ipc_script.specs.declared.fault.ScriptFault.TheVariants.{NoMemory, Input, Output, Device, NotFormatted, Version, Damaged}
use Rattle.ipc_script.specs.declared.fault.ScriptFault.TheVariants.{TooLong, BadLine, InUse, Unknown}
use Rattle.ipc_script.specs.Line.{longest_script, PlainLine, Open, Data, End, Tick, Save, Stop, line_of, lines_of}
use Rattle.ipc_script.specs.Script.{Run, Cut, Progress, Outcome, start_run, text_done, first_cut, then_next, run_lines, is_open, opened, report}
use Rattle.ipc_script.specs.Script.{after_line, run_after, script_after}
use Rattle.ipc_script.specs.Script.{MayStop, HasNoStop, stopped, fed_in_pieces, script_run, lines_run, WritesPart}
use Rattle.ipc_script.specs.Script.{WritesMore, EndsAs, BreaksOff, Halts, IsYoung, Runs}
use Rattle.ipc_store.specs.Histories.{Takes}
use Rattle.ipc_store.specs.View.{StoreView}
use Rattle.ipc_script.specs.ByLines.{ByEnd, EndsAfter, HasRunLines, TakesNext}
use Rattle.ipc_script.specs.Halting.{HaltsNext}
use Rattle.ipc_script.specs.ByLines.HasRunLines.{None as none_run, Again as line_again}
use Rattle.ipc_script.specs.Stops.{IsReopened}
use Rattle.ipc_script.specs.Relations.Lasts.{Lasts, FailsWithin}
use Rattle.ipc_script.specs.Relations.Input.{IsReadFault, ReadsTooMuch}
use Rattle.ipc_script.specs.Relations.Matches.{RunMatchesBetween, opened_of}
use Rattle.ipc_script.specs.Relations.Simulation.{LineStops, SimulatesScript, text_of}
use Rattle.ipc_script.proofs.Lasting.{lasts-fails, takes-same}
use Rattle.ipc_script.proofs.FaultCases.{by_each}
use Rattle.ipc_script.proofs.WrittenText.{part_none, part_after, part_more, grown_by, grown_part}

-- after a text, what comes
abbrev pub later : List ℕ → Outcome → Outcome
later text o = record { text = text ++ o.text; fault = o.fault }

-- some lines are run, and some are left
pub record PartlyRun {D : Type 0} (limits : Limits) (h : Clients) (script : List ℕ) (medium : D → Medium) (old : StoreView D) (number : ℕ)
    (hub : StoredHub D) (opened : List Opened) (rest : List ℕ) (before after : Option (List ℕ)) : Type 0 where
  pub now : Run
  pub first : List (List ℕ)
  pub lines : lines_of script ≡ first ++ lines_of rest
  pub done : List Cut
  pub text : List ℕ
  pub at : RunMatchesBetween limits hub opened now
  pub written : Appends before after text
  pub runs : (lines : List (List ℕ)) (more : List Cut)
      → run_lines limits 1 (start_run h) (first ++ lines) (done ++ more) ≡ later text (run_lines limits number now lines more)
  pub comes : (lines : List (List ℕ)) (more : List Cut)
      → run_after limits 1 (start_run h) (first ++ lines) (done ++ more) ≡ run_after limits number now lines more
  pub lived : HasRunLines medium limits old h number first hub.store now text

-- a beginning of what a line writes begins what it and the next lines write
goes_part : (a b : Option (List ℕ)) (result : Result Progress ScriptFault) (next : Run → Outcome) → WritesPart a b (text_of result)
    → WritesPart a b (then_next result next).text
goes_part a b (Err e) next part = part
goes_part a b (Ok p) next part = part_more a b p.text (next p.run).text part

-- a run without connections
starts : {D : Type 0} (limits : Limits) (h : Clients) (hub : StoredHub D) → StoredMatches limits hub h → h.clients ≡ []
    → RunMatchesBetween limits hub [] (start_run h)
starts limits h hub matches none =
    record {
      run = record {
        matches = matches;
        kept = ap (λ (t : List (ℕ × Client)). map (opened_of (λ _. false)) (keys_of t)) (sym none);
        whole = λ n. rw none tt;
        rising = rw none (omega arith);
      };
      quiet = λ n. rw none tt;
    }

module _ {D : Type 0} (limits : Limits) (h : Clients) (script : List ℕ) (medium : D → Medium) (old : StoreView D) where
  pub run_begun : (hub : StoredHub D) (w : Option (List ℕ)) → StoredMatches limits hub h → h.clients ≡ [] → hub.store ≡ old
      → PartlyRun limits h script medium old 1 hub [] script w w
  run_begun hub w matches none same =
      record {
        now = start_run h;
        first = [];
        lines = refl;
        done = [];
        text = [];
        at = starts limits h hub matches none;
        written = Appends-nil w;
        runs = λ lines more. refl;
        comes = λ lines more. refl;
        lived = rw same none_run;
      }

  module _ (number : ℕ) (hub : StoredHub D) (opened : List Opened) (rest : List ℕ) (w0 w1 : Option (List ℕ))
      (p : PartlyRun limits h script medium old number hub opened rest w0 w1) where
    -- the whole script, by what is left
    ran : (more : List Cut) → run_lines limits 1 (start_run h) (lines_of script) (p.done ++ more)
        ≡ later p.text (run_lines limits number p.now (lines_of rest) more)
    ran more = ap (λ (ls : List (List ℕ)). run_lines limits 1 (start_run h) ls (p.done ++ more)) p.lines ∙ p.runs (lines_of rest) more

    -- one line more
    pub run_more : (line beyond : List ℕ) → lines_of rest ≡ line ∷ lines_of beyond → (cut : Cut) (q : Progress)
        → text_done limits number p.now (line_of line) cut ≡ Ok q
        → (next : StoredHub D) (changed : List Opened) (w2 : Option (List ℕ)) → RunMatchesBetween limits next changed q.run → Appends w1 w2 q.text
        → HasRunLines medium limits old h (number + 1) (p.first ++ line ∷ []) next.store q.run (p.text ++ q.text)
        → PartlyRun limits h script medium old (number + 1) next changed beyond w0 w2
    run_more line beyond lines cut q is next changed w2 at wrote lived =
        record {
          now = q.run;
          first = p.first ++ line ∷ [];
          lines = p.lines ∙ ap (λ (ls : List (List ℕ)). p.first ++ ls) lines ∙ sym (append_assoc p.first (line ∷ []) (lines_of beyond));
          done = p.done ++ cut ∷ [];
          text = p.text ++ q.text;
          at = at;
          written = Appends-trans w0 w1 w2 p.text q.text p.written wrote;
          runs = λ others more.
              let rest_of : Outcome = run_lines limits (number + 1) q.run others more in
              ap (λ (ls : List (List ℕ)). run_lines limits 1 (start_run h) ls ((p.done ++ cut ∷ []) ++ more)) (append_assoc p.first (line ∷ []) others)
              ∙ (ap (run_lines limits 1 (start_run h) (p.first ++ line ∷ others)) (append_assoc p.done (cut ∷ []) more)
              ∙ (p.runs (line ∷ others) (cut ∷ more)
              ∙ (ap (λ r. later p.text (then_next r (λ now. run_lines limits (number + 1) now others more))) is
              ∙ ap (λ (t : List ℕ). record { text = t; fault = rest_of.fault }) (sym (append_assoc p.text q.text rest_of.text)))));
          comes = λ others more.
              ap (λ (ls : List (List ℕ)). run_after limits 1 (start_run h) ls ((p.done ++ cut ∷ []) ++ more)) (append_assoc p.first (line ∷ []) others)
              ∙ (ap (run_after limits 1 (start_run h) (p.first ++ line ∷ others)) (append_assoc p.done (cut ∷ []) more)
              ∙ (p.comes (line ∷ others) (cut ∷ more)
              ∙ ap (λ r. after_line r p.now (λ now. run_after limits (number + 1) now others more)) is));
          lived = lived;
        }

    -- the server was dropped, and its device opened again
    pub run_stopped : (line beyond : List ℕ) → lines_of rest ≡ line ∷ lines_of beyond → line_of line ≡ Some Stop → (next : StoredHub D)
        → StoredMatches limits next (no_clients (restart limits p.now.hub.state) (Restart ∷ [])) → (closed : StoreView D) → Takes medium hub.store [] closed
        → closed.machine.state ≡ p.now.hub.state → IsReopened medium closed next.store
        → PartlyRun limits h script medium old (number + 1) next [] beyond w0 w1
    run_stopped line beyond lines is next matches closed took state again =
        run_more line beyond lines [] (record { text = []; run = stopped limits p.now }) (ap (λ (o : Option PlainLine). text_done limits number p.now o []) is)
        next [] w1 (starts limits (no_clients (restart limits p.now.hub.state) (Restart ∷ [])) next matches refl) (Appends-nil w1)
        (subst (HasRunLines medium limits old h (number + 1) (p.first ++ line ∷ []) next.store (stopped limits p.now)) (sym (append-nil p.text))
        (line_again number p.first line hub.store closed next.store p.now p.text p.lived is took state again))

    -- all lines were run, or the next one is refused: the store is as it was
    abbrev pub AsLeft : Option (List ℕ) → StoreView D → Type 0
    AsLeft w2 closed = (closed ≡ hub.store) × (closed.machine.state ≡ p.now.hub.state) × Appends w0 w2 p.text

    pub as_left : (w2 : Option (List ℕ)) (closed : StoreView D) → Appends w1 w2 [] → closed ≡ hub.store → closed.machine.state ≡ hub.hub.state
        → AsLeft w2 closed
    as_left w2 closed none same state =
        (same, state ∙ p.at.run.matches.hub.state, subst (Appends w0 w2) (append-nil p.text) (Appends-trans w0 w1 w2 p.text [] p.written none))

    -- the next one has failed
    abbrev pub Failed : StoreView D → Type 0
    Failed closed = Takes medium hub.store [] closed ⊎ TakesNext medium limits number p.now (lines_of rest) hub.store closed

    pub failed : (line beyond : List ℕ) → lines_of rest ≡ line ∷ lines_of beyond → (form : PlainLine) → line_of line ≡ Some form → (closed : StoreView D)
        → FailsWithin medium limits number p.now form hub.store closed → Failed closed
    failed line beyond lines form is closed (inl none) = inl none
    failed line beyond lines form is closed (inr part) =
        inr (record { line = line; beyond = lines_of beyond; next = lines; form = form; is = is; part = part })

    -- what was run so far, and what the store took then
    pub ends_after : (closed : StoreView D) (w2 : Option (List ℕ)) (result : Result ⊤ ScriptFault) → WritesMore w1 w2 [] → OnOk result (lines_of rest ≡ [])
        → ByEnd result (Failed closed) (AsLeft w2 closed)
        → (result ≡ Err Device → IsYoung old → HaltsNext limits p.now (lines_of rest) closed.confirmed p.text w0 w2)
        → EndsAfter medium limits h script w0 w2 old closed result
    ends_after closed w2 result more whole ends halted = record {
      number = number;
      lines = p.first;
      rest = lines_of rest;
      all = p.lines;
      last = hub.store;
      run = p.now;
      text = p.text;
      runs = p.lived;
      written = (more.0, Appends-trans w0 w1 w2 p.text more.0 p.written more.1);
      whole = whole;
      ends = ends;
      halted = halted;
    }

    -- the disk failed in a line: what was written goes on
    pub run_halted : (w2 : Option (List ℕ)) → WritesMore w1 w2 [] → Halts limits h script w0 w2
    run_halted w2 more =
        let count : ℕ = length p.first in
        let lines : take count (lines_of script) ≡ p.first = ap (take count) p.lines ∙ take-append_seam p.first (lines_of rest) in
        let ends : lines_run limits h script count p.done ≡ record { text = p.text ++ []; fault = None } =
        ap (λ (ls : List (List ℕ)). run_lines limits 1 (start_run h) ls p.done) (lines ∙ sym (append-nil p.first))
        ∙ (ap (run_lines limits 1 (start_run h) (p.first ++ [])) (sym (append-nil p.done)) ∙ p.runs [] []) in
        let text : (lines_run limits h script count p.done).text ≡ p.text = ap (λ (o : Outcome). o.text) ends ∙ append-nil p.text in
        record {
          count = count;
          cuts = p.done;
          runs = ap (λ (o : Outcome). o.fault) ends;
          text = subst (WritesMore w0 w2) (sym text) (more.0, Appends-trans w0 w1 w2 p.text more.0 p.written more.1);
        }

    -- a line that is refused
    pub run_refused : (line beyond : List ℕ) → lines_of rest ≡ line ∷ lines_of beyond → (e : ScriptFault)
        → ((cut : Cut) → text_done limits number p.now (line_of line) cut ≡ Err e)
        → (w2 : Option (List ℕ)) → Appends w1 w2 [] → EndsAs limits h script w0 w2 (Some e)
    run_refused line beyond lines e is w2 wrote =
        let ends : run_lines limits 1 (start_run h) (lines_of script) p.done ≡ record { text = p.text ++ []; fault = Some e } =
        ap (run_lines limits 1 (start_run h) (lines_of script)) (sym (append-nil p.done))
        ∙ (ran []
        ∙ (ap (λ (ls : List (List ℕ)). later p.text (run_lines limits number p.now ls [])) lines
        ∙ ap (λ r. later p.text (then_next r (λ now. run_lines limits (number + 1) now (lines_of beyond) []))) (is (first_cut [])))) in (
          p.done,
          (
            subst (Appends w0 w2) (sym (ap (λ (o : Outcome). o.text) ends)) (Appends-trans w0 w1 w2 p.text [] p.written wrote),
            ap
                (λ (o : Outcome). o.fault) ends,
          ),
        )

    -- a line of which a beginning is written
    pub run_broken : (line beyond : List ℕ) → lines_of rest ≡ line ∷ lines_of beyond → (cut : Cut) → (w2 : Option (List ℕ))
        → WritesPart w1 w2 (text_of (text_done limits number p.now (line_of line) cut)) → BreaksOff limits h script w0 w2
    run_broken line beyond lines cut w2 part =
        let next : Run → Outcome = λ now. run_lines limits (number + 1) now (lines_of beyond) [] in
        let done : Result Progress ScriptFault = text_done limits number p.now (line_of line) cut in
        let ends : run_lines limits 1 (start_run h) (lines_of script) (p.done ++ cut ∷ []) ≡ later p.text (then_next done next) =
        ran (cut ∷ []) ∙ ap (λ (ls : List (List ℕ)). later p.text (run_lines limits number p.now ls (cut ∷ []))) lines in (
          p.done ++ cut ∷ [],
          subst (WritesPart w0 w2) (sym (ap (λ (o : Outcome). o.text) ends))
              (part_after w0 w1 w2 p.text (then_next done next).text p.written (goes_part w1 w2 done next part)),
        )

    -- no line more
    pub run_ended : lines_of rest ≡ [] → EndsAs limits h script w0 w1 None
    run_ended none =
        let ends : run_lines limits 1 (start_run h) (lines_of script) p.done ≡ record { text = p.text ++ []; fault = None } =
        ap (run_lines limits 1 (start_run h) (lines_of script)) (sym (append-nil p.done))
        ∙ (ran [] ∙ ap (λ (ls : List (List ℕ)). later p.text (run_lines limits number p.now ls [])) none) in
        (p.done, (subst (Appends w0 w1) (sym (append-nil p.text) ∙ sym (ap (λ (o : Outcome). o.text) ends)) p.written, ap (λ (o : Outcome). o.fault) ends))

    -- what is there then
    pub run_came : lines_of rest ≡ [] → (cuts : List Cut) × Appends w0 w1 (script_run limits h script cuts).text
        × (script_after limits h script cuts ≡ p.now.hub)
    run_came none =
        let ends : run_lines limits 1 (start_run h) (lines_of script) p.done ≡ record { text = p.text ++ []; fault = None } =
        ap (run_lines limits 1 (start_run h) (lines_of script)) (sym (append-nil p.done))
        ∙ (ran [] ∙ ap (λ (ls : List (List ℕ)). later p.text (run_lines limits number p.now ls [])) none) in
        let all : run_after limits 1 (start_run h) (lines_of script) p.done ≡ p.now =
        ap (run_after limits 1 (start_run h) (lines_of script)) (sym (append-nil p.done))
        ∙ (ap (λ (ls : List (List ℕ)). run_after limits 1 (start_run h) ls (p.done ++ [])) p.lines
        ∙ (p.comes (lines_of rest) []
        ∙ ap (λ (ls : List (List ℕ)). run_after limits number p.now ls []) none)) in
        (p.done, subst (Appends w0 w1) (sym (append-nil p.text) ∙ sym (ap (λ (o : Outcome). o.text) ends)) p.written, ap (λ (r : Run). r.hub) all)

-- whatever a line that is not run wrote, nothing was taken back
module _ {D : Type 0} (medium : D → Medium) (limits : Limits) (number : ℕ) (r : Run) (line : PlainLine) (old new : StoredHub D) (a b : Option (List ℕ))
    (e : ScriptFault) (stops : LineStops medium limits number r line old new a b e) where
  pub stops_grown : WritesMore a b []
  stops_grown = by_each _ _ _ (WritesMore a b []) e (λ part. grown_part a b _ part.1.1) (λ failed. failed.1) (λ refused. grown_by a b [] refused.1) stops

  -- and the store takes some events
  pub stops_lasts : ((d : D) (image : Image) → (medium d).images_since (medium d).moment image → (medium d).images_now image)
      → Lasts medium old.store new.store
  stops_lasts law =
      by_each _ _ _ (Lasts medium old.store new.store) e (λ part. lasts-fails medium limits number r line old.store new.store part.0)
      (λ failed. lasts-fails medium limits number r line old.store new.store failed.0)
      (λ refused. ([], takes-same medium law old.store new.store (ap (λ (h : StoredHub D). h.store) refused.2))) stops

-- ---- lines that are `stop`

module _ (rest line beyond : List ℕ) (lines : lines_of rest ≡ line ∷ lines_of beyond) where
  may-all : (old : Medium) → MayStop old rest → All (λ (l : List ℕ). line_of l ≢ Some Stop) (line ∷ lines_of beyond) ⊎ IsHonest old
  may-all old may = subst (λ (ls : List (List ℕ)). All (λ (l : List ℕ). line_of l ≢ Some Stop) ls ⊎ IsHonest old) lines may

  -- if the first line is one, the disk is honest
  pub may-here : (old : Medium) → MayStop old rest → line_of line ≡ Some Stop → IsHonest old
  may-here old may is =
      elim (may-all old may) [
        | inl none ↦ absurd (All-head (λ (l : List ℕ). line_of l ≢ Some Stop) line (lines_of beyond) none is)
        | inr honest ↦ honest
      ]

  -- an honest disk stays so from line to line
  pub may-beyond : (old new : Medium) → MayStop old rest → (IsHonest old → IsHonest new) → MayStop new beyond
  may-beyond old new may keeps =
      elim (may-all old may) [
        | inl none ↦ inl (All-tail (λ (l : List ℕ). line_of l ≢ Some Stop) line (lines_of beyond) none)
        | inr honest ↦ inr (keeps honest)
      ]

-- no line of a script is `stop`, so the first is none, and none after it is
pub no-stop-here : (rest line beyond : List ℕ) → lines_of rest ≡ line ∷ lines_of beyond → HasNoStop rest → line_of line ≢ Some Stop
no-stop-here rest line beyond is none =
    All-head (λ (l : List ℕ). line_of l ≢ Some Stop) line (lines_of beyond) (subst (All (λ (l : List ℕ). line_of l ≢ Some Stop)) is none)

pub no-stop-beyond : (rest line beyond : List ℕ) → lines_of rest ≡ line ∷ lines_of beyond → HasNoStop rest → HasNoStop beyond
no-stop-beyond rest line beyond is none =
    All-tail (λ (l : List ℕ). line_of l ≢ Some Stop) line (lines_of beyond) (subst (All (λ (l : List ℕ). line_of l ≢ Some Stop)) is none)

-- a line is not `stop`
pub goes_on : (o : Option PlainLine) (form : PlainLine) → o ≡ Some form → form ≢ Stop → o ≢ Some Stop
goes_on o form is goes stop = goes (let same : Some form ≡ Some Stop = sym is ∙ stop in cc)

-- no text, no line
pub no_lines : (text : List ℕ) → length text ≡ 0 → lines_of text ≡ []
unfolding lines_of
no_lines [] e = refl
no_lines (b ∷ bs) e = absurd (omega arith)

-- ---- no line is a fault of the script's length

never_if : {A : Type 0} (b : Bool) (x y : Result A ScriptFault) → (x ≡ Err TooLong → ⊥) → (y ≡ Err TooLong → ⊥) → (if b then x else y) ≡ Err TooLong → ⊥
never_if true x y one other is = one is
never_if false x y one other is = other is

never_text : (limits : Limits) (number : ℕ) (r : Run) (line : Option PlainLine) (cut : Cut) → text_done limits number r line cut ≡ Err TooLong → ⊥
never_text limits number r None cut is = cc
never_text limits number r (Some (Open conn)) cut is = never_if (is_open r conn) (Err (InUse number)) (Ok (report (opened r conn))) (λ e. cc) (λ e. cc) is
never_text limits number r (Some (Data moment conn bytes)) cut is =
    never_if (is_open r conn) (Ok (fed_in_pieces limits r moment conn bytes cut)) (Err (Unknown number)) (λ e. cc) (λ e. cc) is
never_text limits number r (Some (End moment conn)) cut is =
    never_if (is_open r conn) (Ok (report (record r { hub = hangup limits r.hub conn moment }))) (Err (Unknown number)) (λ e. cc) (λ e. cc) is
never_text limits number r (Some (Tick moment)) cut is = cc
never_text limits number r (Some Save) cut is = cc
never_text limits number r (Some Stop) cut is = cc

never_on : (result : Result Progress ScriptFault) (next : Run → Outcome) → (result ≡ Err TooLong → ⊥)
    → ((now : Run) → (next now).fault ≡ Some TooLong → ⊥) → (then_next result next).fault ≡ Some TooLong → ⊥
never_on (Err e) next here later is = let same : e ≡ TooLong = cc in here (ap (λ (f : ScriptFault). Err f) same)
never_on (Ok p) next here later is = later p.run is

never_long : (limits : Limits) (number : ℕ) (r : Run) (lines : List (List ℕ)) (cuts : List Cut)
    → (run_lines limits number r lines cuts).fault ≡ Some TooLong → ⊥
never_long limits number r [] cuts is = cc
never_long limits number r (line ∷ lines) cuts is =
    never_on (text_done limits number r (line_of line) (first_cut cuts)) (λ now. run_lines limits (number + 1) now lines (drop 1 cuts))
    (never_text limits number r (line_of line) (first_cut cuts)) (λ now. never_long limits (number + 1) now lines (drop 1 cuts)) is

-- all lines of a script that is not too long are the script's run
pub all_lines : (limits : Limits) (h : Clients) (script : List ℕ) (before after : Option (List ℕ)) (result : Result ⊤ ScriptFault)
    → length script ≤ longest_script
    → SimulatesScript limits h script before after result → Runs limits h script before after result
all_lines limits h script before after (Ok u) short ran = (short, ran)
all_lines limits h script before after (Err NoMemory) short ran = ran
all_lines limits h script before after (Err Input) short ran = absurd ran
all_lines limits h script before after (Err Output) short ran = ran
all_lines limits h script before after (Err Device) short ran = ran
all_lines limits h script before after (Err NotFormatted) short ran = ran
all_lines limits h script before after (Err (Version found)) short ran = ran
all_lines limits h script before after (Err (Damaged sector)) short ran = ran
all_lines limits h script before after (Err TooLong) short ran = absurd (never_long limits 1 (start_run h) (lines_of script) ran.0 ran.1.1)
all_lines limits h script before after (Err (BadLine number)) short ran = (short, ran)
all_lines limits h script before after (Err (InUse number)) short ran = (short, ran)
all_lines limits h script before after (Err (Unknown number)) short ran = (short, ran)

-- a script that was read whole is run
pub script_done : (limits : Limits) (h : Clients) (seen items : List ℕ) (before after : Option (List ℕ)) (result : Result ⊤ ScriptFault) → seen ≡ items
    → length items ≤ longest_script → SimulatesScript limits h seen before after result → Runs limits h items before after result
script_done limits h seen items before after result same short ran =
    subst (λ (text : List ℕ). Runs limits h text before after result) same
    (all_lines limits h seen before after result (omega (arith, short, ap length same)) ran)

-- all that there is to read, if the reader tells it
abbrev input_of : Option (List ℕ) → List ℕ
input_of None = []
input_of (Some input) = input

is_input : (remaining : Option (List ℕ)) → IfSome remaining (λ input. input_of remaining ≡ input)
is_input None = tt
is_input (Some input) = refl

long_input : (remaining left : Option (List ℕ)) → ReadsTooMuch remaining left → (script : List ℕ) × IfSome remaining (λ input. script ≡ input)
    × (longest_script < length script)
long_input None left long = (long.0, tt, long.2)
long_input (Some input) None long = absurd long.1
long_input (Some input) (Some rest) long = (input, refl, omega (arith, ap length long.1, length-append long.0 rest, long.2))

-- nothing of a script is written
unwritten : (limits : Limits) (h : Clients) (script : List ℕ) (w : Option (List ℕ)) → BreaksOff limits h script w w
unwritten limits h script w = ([], part_none w (script_run limits h script []).text)

-- a script that was not read whole
pub not_read : (remaining left w : Option (List ℕ)) (e : ScriptFault) → IsReadFault e → (e ≡ TooLong → ReadsTooMuch remaining left)
    → (script : List ℕ) × IfSome remaining (λ input. script ≡ input) × ((limits : Limits) (h : Clients) → Runs limits h script w w (Err e))
not_read remaining left w NoMemory f long = (input_of remaining, is_input remaining, λ limits h. unwritten limits h (input_of remaining) w)
not_read remaining left w Input f long = (input_of remaining, is_input remaining, λ limits h. Appends-nil w)
not_read remaining left w Output f long = absurd f
not_read remaining left w Device f long = absurd f
not_read remaining left w NotFormatted f long = absurd f
not_read remaining left w (Version found) f long = absurd f
not_read remaining left w (Damaged sector) f long = absurd f
not_read remaining left w TooLong f long =
    let l = long_input remaining left (long refl) in (l.0, l.1, λ limits h. (l.2, Appends-nil w))
not_read remaining left w (BadLine number) f long = absurd f
not_read remaining left w (InUse number) f long = absurd f
not_read remaining left w (Unknown number) f long = absurd f
