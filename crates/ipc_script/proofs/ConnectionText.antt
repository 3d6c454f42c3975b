-- What is said of one connection: its frames, and then, once, that the server has ended it.
use Rattle.std.proofs.Common.{◌≡◌, ℕ, Bool, true, false, cond, ◌||◌, ◌&&◌, List, [], ◌++◌, Option, Some, None, refl, sym, ap, ◌∙◌, subst}
use Rattle.std.specs.Prelude.{not}
use Rattle.std.specs.Io.KnownBytes.{Appends}
use Rattle.std.proofs.KnownBytes.{Appends-nil, Appends-trans}
use Rattle.ipc_limits.specs.declared.limits.Limits.{Limits}
use Rattle.ipc_hub.specs.View.{HubView}
use Rattle.ipc_hub.specs.Clients.{accepted, Client, Clients, client_at, ended_at}
use Rattle.ipc_hub.specs.Relations.Matches.{HubMatches}
use Rattle.ipc_script.specs.declared.report.Opened.{Opened}
use Rattle.ipc_script.specs.Script.{Run, emptied, end_line, conn_text, WritesPart}
use Rattle.ipc_script.specs.Relations.Report.{without_frames, frames_text, SimulatesReportAt}
use Rattle.ipc_base.proofs.CallerLemmas.{at-with as value_here}
use Rattle.ipc_script.proofs.WrittenText.{part_after, part_more}

-- the server's ends stay
ended_taken : (h : Clients) (conn : ℕ) → ended_at (without_frames h conn) conn ≡ ended_at h conn
ended_taken h conn = at (client_at h conn) refl
  where
    at : (o : Option Client) → client_at h conn ≡ o → ended_at (without_frames h conn) conn ≡ ended_at h conn
    at None e = rw e (rw e refl)
    at (Some c) e = let there = value_here h.clients conn (emptied c) c e in rw e (rw there refl)

-- what is said of a connection is what is said of its frames and of its end
said : (r : Run) (conn : ℕ) → conn_text r conn ≡ frames_text r.hub conn ++ cond (ended_at r.hub conn && not (r.told conn)) (end_line conn) []
said r conn = at (client_at r.hub conn) refl
  where
    at : (o : Option Client) → client_at r.hub conn ≡ o
        → conn_text r conn ≡ frames_text r.hub conn ++ cond (ended_at r.hub conn && not (r.told conn)) (end_line conn) []
    at None e = rw e refl
    at (Some c) e = rw e refl

-- a beginning of what is said of its frames
pub frames_part : (r : Run) (conn : ℕ) (w0 w1 : Option (List ℕ)) → WritesPart w0 w1 (frames_text r.hub conn) → WritesPart w0 w1 (conn_text r conn)
frames_part r conn w0 w1 part = subst (WritesPart w0 w1) (sym (said r conn)) (part_more w0 w1 (frames_text r.hub conn) _ part)

module _ (limits : Limits) (r : Run) (conn : ℕ) (hub : HubView) (w0 w1 w2 : Option (List ℕ)) (told ended : Bool)
    (matches : HubMatches limits (accepted r.hub) hub (without_frames r.hub conn)) (frames : Appends w0 w1 (frames_text r.hub conn))
    (was : told ≡ r.told conn) (is : ended ≡ ended_at (without_frames r.hub conn) conn) where
  server : ended ≡ ended_at r.hub conn
  server = is ∙ ended_taken r.hub conn

  whole : frames_text r.hub conn ++ cond (ended && not told) (end_line conn) [] ≡ conn_text r conn
  whole =
      let tail : cond (ended && not told) (end_line conn) [] ≡ cond (ended_at r.hub conn && not (r.told conn)) (end_line conn) [] =
      ap (λ (b : Bool). cond (b && not told) (end_line conn) []) server ∙ ap (λ (b : Bool). cond (ended_at r.hub conn && not b) (end_line conn) []) was in
      ap (λ (l : List ℕ). frames_text r.hub conn ++ l) tail ∙ sym (said r conn)

  -- a beginning of what is said of the end
  pub reports_part : WritesPart w1 w2 (cond (ended && not told) (end_line conn) []) → WritesPart w0 w2 (conn_text r conn)
  reports_part end = subst (WritesPart w0 w2) whole (part_after w0 w1 w2 (frames_text r.hub conn) _ frames end)

  pub reports : (opened : Opened) → opened ≡ record { conn = conn; told = told || ended } → Appends w1 w2 (cond (ended && not told) (end_line conn) [])
      → SimulatesReportAt limits r hub conn opened w0 w2
  reports opened kept end =
      let flag : (told || ended) ≡ (r.told conn || ended_at r.hub conn) = ap (λ (b : Bool). b || ended) was ∙ ap (λ (b : Bool). r.told conn || b) server in
      record {
        matches = matches;
        kept = kept ∙ ap (λ (b : Bool). record { conn = conn; told = b }) flag;
        text = subst (Appends w0 w2) whole (Appends-trans w0 w1 w2 _ _ frames end);
      }

  -- the end was told, and its client was told nothing more
  pub reports_told : (opened : Opened) → opened ≡ record { conn = conn; told = told } → told ≡ true → w2 ≡ w1 → SimulatesReportAt limits r hub conn opened w0 w2
  reports_told opened kept true_told same =
      reports opened (kept ∙ ap (λ (b : Bool). record { conn = conn; told = b }) (true_told ∙ sym (ap (λ (b : Bool). b || ended) true_told)))
      (nothing ended told true_told)
    where
      nothing : (ended told : Bool) → told ≡ true → Appends w1 w2 (cond (ended && not told) (end_line conn) [])
      nothing true true e = subst (λ (w : Option (List ℕ)). Appends w1 w []) (sym same) (Appends-nil w1)
      nothing false told e = subst (λ (w : Option (List ℕ)). Appends w1 w []) (sym same) (Appends-nil w1)
      nothing true false e = cc
