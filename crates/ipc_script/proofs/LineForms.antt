-- What each form of a line does.
use Rattle.std.proofs.Common.{◌≡◌, ℕ, true, false, List, [], ◌++◌, length, take, drop, Option, refl, sym, ap, ◌∙◌, subst, inl, inr}
use Rattle.std.specs.Prelude.{◌≢◌, Ok, Err, Result, ⊤, OnOk, IfErr}
use Rattle.std.specs.Io.KnownBytes.{Appends}
use Rattle.std.proofs.KnownBytes.{Appends-nil}
use Rattle.std.proofs.Math.Seq.{take-append_seam}
use Rattle.ipc_limits.specs.declared.limits.Limits.{Limits}
use Rattle.ipc_disk.specs.Medium.{Medium}
use Rattle.ipc_store.specs.Histories.{Takes}
use Rattle.ipc_hub.specs.View.{StoredHub}
use Rattle.ipc_hub.specs.Clients.{hangup}
use Rattle.ipc_hub.specs.Relations.Matches.{StoredMatches}
use Rattle.ipc_script.specs.declared.fault.ScriptFault.{ScriptFault}
use Rattle.ipc_script.specs.declared.fault.ScriptFault.TheVariants.{InUse, Unknown}
use Rattle.ipc_script.specs.declared.report.Opened.{Opened}
use Rattle.ipc_script.specs.Line.{PlainLine, Open, End, Stop}
use Rattle.ipc_script.specs.Script.{Run, Progress, Cut, is_open, opened, report, line_done, first_part, WritesPart, WritesMore}
use Rattle.ipc_script.specs.Relations.Faults.{ByFault, IfRefused}
use Rattle.ipc_script.specs.Relations.Lasts.{LastsAs, FailsWithin}
use Rattle.ipc_script.specs.Relations.Matches.{RunMatches, ProgressMatches}
use Rattle.ipc_script.specs.Relations.Simulation.{LineStops, SimulatesLine, text_of}
use Rattle.ipc_script.proofs.FaultCases.{by_fault_both, by_fault}
use Rattle.ipc_script.proofs.Lasting.{takes-more}
use Rattle.ipc_script.proofs.WrittenText.{part_none, grown_none}

-- a list that is written back into its vector
pub written_back : {A : Type 0} (n : ℕ) (new old : List A) → n ≡ length old → length new ≡ length old → take n (new ++ drop (length new) old) ≡ new
written_back n new old len same =
    ap (λ (k : ℕ). take k (new ++ drop (length new) old)) (len ∙ sym same) ∙ take-append_seam new (drop (length new) old)

-- a call that changes nothing of the clients keeps the run
pub still_matches : {D : Type 0} (limits : Limits) (old new : StoredHub D) (opened : List Opened) (r : Run)
    → (StoredMatches limits old r.hub → StoredMatches limits new r.hub) → RunMatches limits old opened r → RunMatches limits new opened r
still_matches limits old new opened r keeps i = record { matches = keeps i.matches; kept = i.kept; whole = i.whole; rising = i.rising }

-- nothing of a line is written
pub line_unwritten : (limits : Limits) (number : ℕ) (r : Run) (line : PlainLine) (w : Option (List ℕ)) → (cut : Cut)
    × WritesPart w w (text_of (line_done limits number r line cut))
line_unwritten limits number r line w = ([], part_none w (text_of (line_done limits number r line [])))

module _ {D : Type 0} (medium : D → Medium) (limits : Limits) (number : ℕ) (r : Run) (old mid next : StoredHub D) (w0 w1 : Option (List ℕ)) where
  -- what is done is reported; nothing is accepted then
  pub line_reported : (line : PlainLine) (between changed final : List Opened) (result : Result ⊤ ScriptFault)
      → OnOk result ((limits : Limits) (r : Run) → RunMatches limits mid between r → ProgressMatches limits next changed w0 w1 (report r))
      → IfErr result (λ e. ByFault e ((limits : Limits) (r : Run) → RunMatches limits mid between r → WritesPart w0 w1 (report r).text)
      (Appends w0 w1 []) ⊥)
      → final ≡ changed → (now : Run) → RunMatches limits mid between now → ((cut : Cut) → line_done limits number r line cut ≡ Ok (report now))
      → LastsAs medium r.hub now.hub old.store mid.store → Takes medium mid.store [] next.store → line ≢ Stop → first_part 0 line ≡ line
      → SimulatesLine medium limits number r line old next final w0 w1 result
  line_reported line between changed final result ok err same now i done took settled goes whole = by_result result ok err
    where
      lasts : LastsAs medium r.hub (report now).run.hub old.store next.store
      lasts = record { events = took.events; adds = took.adds; takes = takes-more medium old.store mid.store next.store took.events took.takes settled }

      all : FailsWithin medium limits number r line old.store next.store
      all = inr (record {
        goes = goes;
        count = 0;
        cut = [];
        part = report now;
        done = ap (λ (l : PlainLine). line_done limits number r l []) whole ∙ done [];
        lasts = lasts;
      })

      by_result : (result : Result ⊤ ScriptFault)
          → OnOk result ((limits : Limits) (r : Run) → RunMatches limits mid between r → ProgressMatches limits next changed w0 w1 (report r))
          → IfErr result (λ e. ByFault e ((limits : Limits) (r : Run) → RunMatches limits mid between r → WritesPart w0 w1 (report r).text)
          (Appends w0 w1 []) ⊥)
          → SimulatesLine medium limits number r line old next final w0 w1 result
      by_result (Ok u) ok err =
          let matches = subst (λ (os : List Opened). ProgressMatches limits next os w0 w1 (report now)) (sym same) (ok limits now i) in
          ([], report now, done [], matches, lasts, goes)
      by_result (Err e) ok err =
          by_fault ((limits : Limits) (r : Run) → RunMatches limits mid between r → WritesPart w0 w1 (report r).text)
          (FailsWithin medium limits number r line old.store next.store
          × ((cut : Cut) × WritesPart w0 w1 (text_of (line_done limits number r line cut)))) (Appends w0 w1 [])
          (FailsWithin medium limits number r line old.store next.store × WritesMore w0 w1 []) ⊥
          (((cut : Cut) → line_done limits number r line cut ≡ Err e) × Appends w0 w1 [] × (next ≡ old)) e
          (λ part. (all, ([], subst (λ (p : Result Progress ScriptFault). WritesPart w0 w1 (text_of p)) (sym (done [])) (part limits now i))))
          (λ none. (all, ([], none))) (λ never. absurd never) err

-- a line that is refused, or of which nothing was done
pub line_refused : {D : Type 0} (medium : D → Medium) (limits : Limits) (number : ℕ) (r : Run) (old new : StoredHub D) (w : Option (List ℕ))
    (line : PlainLine) (e fault : ScriptFault) (U : Type 0) → Takes medium old.store [] new.store
    → IfRefused e ((e ≡ fault) × (new ≡ old)) → IfRefused e U → (U → (cut : Cut) → line_done limits number r line cut ≡ Err fault)
    → LineStops medium limits number r line old new w w e
line_refused medium limits number r old new w line e fault U none a u refused =
    by_fault_both ⊤ (FailsWithin medium limits number r line old.store new.store
    × ((cut : Cut) × WritesPart w w (text_of (line_done limits number r line cut))))
    ⊤ (FailsWithin medium limits number r line old.store new.store × WritesMore w w [])
    ((e ≡ fault) × (new ≡ old)) U (((cut : Cut) → line_done limits number r line cut ≡ Err e) × Appends w w [] × (new ≡ old)) e
    (λ _. (inl none, line_unwritten limits number r line w)) (λ _. (inl none, grown_none w))
    (λ is v. (λ cut. refused v cut ∙ ap (λ (f : ScriptFault). Err f) (sym is.0), Appends-nil w, is.1)) a u

-- the forms, where they are done and where they are refused
pub open_done : (limits : Limits) (number : ℕ) (r : Run) (conn : ℕ) → is_open r conn ≡ false → (cut : Cut)
    → line_done limits number r (Open conn) cut ≡ Ok (report (opened r conn))
open_done limits number r conn closed cut = rw closed refl

pub open_refused : (limits : Limits) (number : ℕ) (r : Run) (conn : ℕ) → is_open r conn ≡ true → (cut : Cut)
    → line_done limits number r (Open conn) cut ≡ Err (InUse number)
open_refused limits number r conn there cut = rw there refl

pub end_done : (limits : Limits) (number : ℕ) (r : Run) (moment conn : ℕ) → is_open r conn ≡ true
    → (cut : Cut) → line_done limits number r (End moment conn) cut ≡ Ok (report (record r { hub = hangup limits r.hub conn moment }))
end_done limits number r moment conn there cut = rw there refl

pub end_refused : (limits : Limits) (number : ℕ) (r : Run) (moment conn : ℕ) → is_open r conn ≡ false → (cut : Cut)
    → line_done limits number r (End moment conn) cut ≡ Err (Unknown number)
end_refused limits number r moment conn closed cut = rw closed refl
