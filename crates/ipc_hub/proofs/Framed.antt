-- Clients that are the same but for the marks of their frames, where each frame of the second is such a one for the process
-- that the client has joined as: it is enough that this holds of each frame that is pushed, and stays so when a client joins.
use Rattle.std.proofs.Common.{◌≡◌, ℕ, Bool, true, false, List, [], ◌∷◌, ◌++◌, length, Option, Some, None, refl, sym, ap, subst, ◌∙◌, inl, inr}
use Rattle.std.specs.Prelude.{All, if◌then◌else◌}
use Rattle.std.proofs.lemmas.List.{map-append}
use Rattle.std.proofs.lemmas.List.Elements.{All-push, All-weaker}
use Rattle.ipc_base.specs.Table.{seen_as, EachValue, ArePaired}
use Rattle.ipc_wire.specs.Reply.{reply_bytes}
use Rattle.ipc_engine.specs.Event.{PlainEvent, PlainOutcome}
use Rattle.ipc_engine.specs.View.{reply_of}
use Rattle.ipc_hub.specs.Clients.{Client, Frame, client_endpoint, over, own_process, with_frame}
use Rattle.ipc_hub.specs.Replies.{IsFor}
use Rattle.ipc_hub.specs.Unmarked.{bare_frame, bare_client}
use Rattle.ipc_hub.proofs.Kept.{CanPush, IsKept}

bare-framed : (c : Client) (mark : ℕ) (o : PlainOutcome) → bare_client (with_frame c mark o) ≡ with_frame (bare_client c) 0 o
bare-framed c mark o = ap (λ fs. let d : Client = record c { frames = fs } in d) (map-append bare_frame c.frames _)

-- a client that goes on without a process has joined as none
not-joined : (c : Client) → c.ended ≡ false → own_process c ≡ None → c.joined_as ≡ None
not-joined c live none = ap (λ (b : Bool). if b then None else c.joined_as) (sym live) ∙ none

-- what is for its process is for the one that it has joined as
for-joined : (c : Client) (pid : ℕ) → IsFor (own_process c) pid → IsFor c.joined_as pid
for-joined c pid (inr none) = inr none
for-joined c pid (inl own) = inl (by_end c.ended own)
  where
    by_end : (b : Bool) → (if b then None else c.joined_as) ≡ Some pid → c.joined_as ≡ Some pid
    by_end true is = cc
    by_end false is = is

module _ (P : List PlainEvent → Option ℕ → Frame → Type 0) where
  -- each frame of a client is such a one
  abbrev pub Says : List PlainEvent → Client → Type 0
  Says es c = All (P es c.joined_as) c.frames

  abbrev pub Framed : List PlainEvent → Client → Client → Type 0
  Framed es c d = (bare_client c ≡ bare_client d) × Says es d

  pub framed-kept : ((es : List PlainEvent) (e : PlainEvent) (p : Option ℕ) (f : Frame) → P es p f → P (es ++ e ∷ []) p f)
      → ((es : List PlainEvent) (pid : ℕ) (f : Frame) → P es None f → P es (Some pid) f) → IsKept client_endpoint client_endpoint Framed
  framed-kept more joins =
      record {
        process = λ es c d s. ap own_process s.0;
        input = λ es c d s. ap (λ (x : Client). x.input) s.0;
        ended = λ es c d s. ap (λ (x : Client). x.ended) s.0;
        joins = λ es c d pid live none s. (
          ap (λ (x : Client). let y : Client = record x { joined_as = Some pid } in y) s.0,
          All-weaker (P es None) (P es (Some pid)) (joins es pid) d.frames
              (subst (λ (p : Option ℕ). All (P es p) d.frames) (not-joined d live none) s.1),
        );
        keeps = λ es c d bytes s. (ap (λ (x : Client). let y : Client = record x { input = bytes } in y) s.0, s.1);
        goes_on = λ d bytes. refl;
        ends = λ es c d s. (ap over s.0, s.1);
        later = λ es e c d s. (s.0, All-weaker (P es d.joined_as) (P (es ++ e ∷ []) d.joined_as) (more es e d.joined_as) d.frames s.1);
      }

  pub framed-push : (es : List PlainEvent) (o : PlainOutcome)
      → ((p : Option ℕ) → IsFor p o.pid → P es p (record { mark = length es; bytes = reply_bytes (reply_of o) }))
      → CanPush client_endpoint client_endpoint Framed es o
  framed-push es o is mark c d mine s = (
    bare-framed c mark o ∙ ap (λ (x : Client). with_frame x 0 o) s.0 ∙ sym (bare-framed d (length es) o),
    All-push (P es d.joined_as) d.frames _ s.1 (is d.joined_as (for-joined d o.pid mine)),
  )

  -- clients whose frames are such are related to themselves, and so are they when nothing has reached them
  pub framed-own : (es : List PlainEvent) (f : Client → Client) → ((c : Client) → f c ≡ c) → (cs : List (ℕ × Client)) → EachValue (Says es) cs
      → ArePaired (Framed es) (seen_as f cs) cs
  framed-own es f same [] each = tt
  framed-own es f same (c ∷ cs) each = (refl, ((ap bare_client (same c.1), each.0), framed-own es f same cs each.1))

  pub framed-self : (es : List PlainEvent) (cs : List (ℕ × Client)) → EachValue (Says es) cs → ArePaired (Framed es) cs cs
  framed-self es [] each = tt
  framed-self es (c ∷ cs) each = (refl, ((refl, each.0), framed-self es cs each.1))

  -- and those to which others are related have such frames, and are the others but for marks
  pub framed-each : (es : List PlainEvent) (cs ds : List (ℕ × Client)) → ArePaired (Framed es) cs ds
      → EachValue (Says es) ds × (seen_as bare_client cs ≡ seen_as bare_client ds)
  framed-each es [] [] paired = (tt, refl)
  framed-each es [] (d ∷ ds) paired = absurd paired
  framed-each es (c ∷ cs) [] paired = absurd paired
  framed-each es (c ∷ cs) (d ∷ ds) paired =
      let rest = framed-each es cs ds paired.1.1 in
      ((paired.1.0.1, rest.0), λ i. (paired.0 i, paired.1.0.0 i) ∷ rest.1 i)
