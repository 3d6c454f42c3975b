-- The frames of one connection, written and taken one after the other.
use Rattle.std.proofs.Common.{◌≡◌, ℕ, ◌+◌, ◌-◌, ◌<◌, ◌≤◌, true, false, List, [], ◌∷◌, ◌++◌, length, take, drop, Option, Some, None, IfSome, refl, sym}
use Rattle.std.proofs.Common.{ap, ◌∙◌, subst, arith, append_assoc, append-nil}
use Rattle.std.specs.Prelude.{nat_eq, nat_le, All}
use Rattle.std.specs.List.{flat_map}
use Rattle.std.specs.Io.KnownBytes.{Appends}
use Rattle.std.proofs.KnownBytes.{Appends-nil, Appends-trans}
use Rattle.std.proofs.Math.Seq.{take-append_seam}
use Rattle.std.proofs.lemmas.List.{length-append}
use Rattle.std.proofs.lemmas.List.Elements.{All-head, All-tail, All-weaker}
use Rattle.std.proofs.lemmas.Bool.Decides.{nat_tests}
use Rattle.ipc_limits.specs.declared.limits.Limits.{Limits}
use Rattle.ipc_base.specs.Table.{with_value}
use Rattle.ipc_hub.specs.View.{HubView}
use Rattle.ipc_hub.specs.Clients.{accepted, Frame, Client, Clients, client_at, with_client, consume, consumed_from, confirmed_bytes, shown, shown_at}
use Rattle.ipc_hub.specs.Relations.Matches.{IsFrame, AreFrames, ClientMatches}
use Rattle.ipc_hub.specs.Relations.Matches.{HubMatches, Simulates}
use Rattle.ipc_script.specs.Script.{emptied, frame_line, WritesPart}
use Rattle.ipc_script.specs.Relations.Matches.{HasWholeFrames}
use Rattle.ipc_script.specs.Relations.Report.{without_frames, frames_text}
use Rattle.ipc_script.proofs.FirstFrame.{frame_length}
use Rattle.ipc_base.proofs.CallerLemmas.{at-with as value_here, own as put_same, twice as put_twice}
use Rattle.ipc_script.proofs.HubAndClients.{partner-at}
use Rattle.ipc_script.proofs.WrittenText.{part_after, part_more}

-- some frames are written and taken: what is after them now, and the text so far
pub record Partly (limits : Limits) (h : Clients) (conn : ℕ) (hub : HubView) (before after : Option (List ℕ)) : Type 0 where
  pub now : Clients
  pub text : List ℕ
  pub matches : HubMatches limits (accepted h) hub now
  pub events : now.events ≡ h.events
  pub untouched : IfSome (client_at now conn) HasWholeFrames
  pub left : without_frames now conn ≡ without_frames h conn
  pub said : text ++ frames_text now conn ≡ frames_text h conn
  pub written : Appends before after text

pub partly_begun : (limits : Limits) (h : Clients) (conn : ℕ) (hub : HubView) (w : Option (List ℕ)) → HubMatches limits (accepted h) hub h
    → IfSome (client_at h conn) HasWholeFrames → Partly limits h conn hub w w
partly_begun limits h conn hub w s u =
    record { now = h; text = []; matches = s; events = refl; untouched = u; left = refl; said = refl; written = Appends-nil w }

-- ---- what a client sees

-- a frame has bytes
frame_nonempty : (bytes : List ℕ) → IsFrame bytes → 0 < length bytes
frame_nonempty bytes f = let sized = frame_length bytes [] bytes f (sym (append-nil bytes)) in omega (arith, sized.0)

-- no more frames are taken
none_taken : (fs : List Frame) → All (λ f. IsFrame f.bytes) fs → consumed_from fs 0 ≡ (fs, 0)
none_taken [] h = refl
none_taken (f ∷ fs) h =
    let long = frame_nonempty f.bytes (All-head (λ (f : Frame). IsFrame f.bytes) f fs h) in
    let more : nat_le (length f.bytes) 0 ≡ false = grind (arith, nat_tests) in
    rw more refl

-- the first frame alone is taken
one_taken : (f : Frame) (fs : List Frame) (n : ℕ) → All (λ f. IsFrame f.bytes) fs → n ≡ length f.bytes → consumed_from (f ∷ fs) n ≡ (fs, 0)
one_taken f fs n h e =
    let whole : nat_le (length f.bytes) n ≡ true = grind (arith, nat_tests) in
    let left : n - length f.bytes ≡ 0 = omega arith in
    rw whole (ap (consumed_from fs) left ∙ none_taken fs h)

pub seen : (confirmed : ℕ) (c : Client) (f : Frame) (fs : List Frame) → c.frames ≡ f ∷ fs → c.consumed ≡ 0 → f.mark ≤ confirmed
    → shown confirmed c ≡ f.bytes ++ confirmed_bytes confirmed fs
seen confirmed c f fs e none mark =
    let marked : nat_le f.mark confirmed ≡ true = grind (arith, nat_tests) in
    ap (λ (n : ℕ). drop n (confirmed_bytes confirmed c.frames)) none
    ∙ (ap (confirmed_bytes confirmed) e ∙ rw marked refl)

pub unseen : (confirmed : ℕ) (c : Client) → c.frames ≡ [] → c.consumed ≡ 0 → shown confirmed c ≡ []
unseen confirmed c e none = ap (λ (n : ℕ). drop n (confirmed_bytes confirmed c.frames)) none ∙ ap (confirmed_bytes confirmed) e

consume_frame : (h : Clients) (conn n : ℕ) (c : Client) (f : Frame) (fs : List Frame) → client_at h conn ≡ Some c → c.frames ≡ f ∷ fs → c.consumed ≡ 0
    → All (λ f. IsFrame f.bytes) fs → n ≡ length f.bytes → consume h conn n ≡ with_client h conn (record c { frames = fs; consumed = 0 })
consume_frame h conn n c f fs at e none frames len =
    let rest : consumed_from c.frames (c.consumed + n) ≡ (fs, 0) =
    ap (λ (gs : List Frame). consumed_from gs (c.consumed + n)) e ∙ one_taken f fs (c.consumed + n) frames (omega arith) in
    rw at (ap (λ (r : List Frame × ℕ). with_client h conn (record c { frames = r.0; consumed = r.1 })) rest)

-- ---- the steps

-- a client of which no frame is left is as if they were taken
same_emptied : (c : Client) → c.frames ≡ [] → c.consumed ≡ 0 → emptied c ≡ c
same_emptied c e none =
    sym (ap (λ (fs : List Frame). record c { frames = fs }) e ∙ ap (λ (n : ℕ). record c { frames = []; consumed = n }) none)

module _ (limits : Limits) (h : Clients) (conn : ℕ) (hub : HubView) (w0 w1 : Option (List ℕ)) (out : List ℕ) (p : Partly limits h conn hub w0 w1)
    (see : (limits : Limits) (confirmed : ℕ) (h : Clients) → HubMatches limits confirmed hub h → out ≡ shown_at confirmed h conn) where
  shows : (c : Client) → client_at p.now conn ≡ Some c → out ≡ shown (accepted h) c
  shows c e = let s = see limits (accepted h) p.now p.matches in rw e at s

  whole : (c : Client) → client_at p.now conn ≡ Some c → c.consumed ≡ 0
  whole c e = subst (λ (o : Option Client). IfSome o HasWholeFrames) e p.untouched

  are_frames : (c : Client) → client_at p.now conn ≡ Some c → AreFrames (accepted h) c.frames
  are_frames c e = subst (λ (n : ℕ). AreFrames n c.frames) (ap length p.events)
      (partner-at (ClientMatches (accepted h) (accepted p.now)) hub.connections p.now.clients conn c p.matches.clients e).1.frames

  frames_of : (c : Client) → client_at p.now conn ≡ Some c → (f : Frame) (fs : List Frame) → c.frames ≡ f ∷ fs → All (λ f. IsFrame f.bytes) (f ∷ fs)
  frames_of c e f fs is = subst (All (λ (f : Frame). IsFrame f.bytes)) is
      (All-weaker (λ (f : Frame). (f.mark ≤ (accepted h)) × IsFrame f.bytes) (λ (f : Frame). IsFrame f.bytes) (λ f both. both.1) c.frames (are_frames c e))

  first_seen : (c : Client) → client_at p.now conn ≡ Some c → (f : Frame) (fs : List Frame) → c.frames ≡ f ∷ fs
      → out ≡ f.bytes ++ confirmed_bytes (accepted h) fs
  first_seen c e f fs is =
      let marks = subst (All (λ (f : Frame). f.mark ≤ (accepted h))) is
      (All-weaker (λ (f : Frame). (f.mark ≤ (accepted h)) × IsFrame f.bytes) (λ (f : Frame). f.mark ≤ (accepted h)) (λ f both. both.0) c.frames
      (are_frames c e)) in
      shows c e ∙ seen (accepted h) c f fs is (whole c e) (All-head (λ (f : Frame). f.mark ≤ (accepted h)) f fs marks)

  -- nothing more is written
  pub partly_none : WritesPart w0 w1 (frames_text h conn)
  partly_none = (p.text, frames_text p.now conn, sym p.said, p.written)

  module _ (line : List ℕ) (count : ℕ) (some : 0 < length out) (first : (frame rest : List ℕ) → IsFrame frame → out ≡ frame ++ rest → count ≡ length frame)
      (spelled : line ≡ frame_line conn (take count out)) where
    first_length : (c : Client) → client_at p.now conn ≡ Some c → (f : Frame) (fs : List Frame) → c.frames ≡ f ∷ fs → count ≡ length f.bytes
    first_length c e f fs is =
        first f.bytes (confirmed_bytes (accepted h) fs) (All-head (λ (f : Frame). IsFrame f.bytes) f fs (frames_of c e f fs is)) (first_seen c e f fs is)

    is_line : (c : Client) → client_at p.now conn ≡ Some c → (f : Frame) (fs : List Frame) → c.frames ≡ f ∷ fs → line ≡ frame_line conn f.bytes
    is_line c e f fs is =
        let bytes : take count out ≡ f.bytes =
        ap (λ (n : ℕ). take n out) (first_length c e f fs is)
        ∙ (ap (take (length f.bytes)) (first_seen c e f fs is) ∙ take-append_seam f.bytes (confirmed_bytes (accepted h) fs)) in
        spelled ∙ ap (frame_line conn) bytes

    line_first : (c : Client) → client_at p.now conn ≡ Some c → (f : Frame) (fs : List Frame) → c.frames ≡ f ∷ fs
        → frames_text p.now conn ≡ line ++ flat_map (λ f. frame_line conn f.bytes) fs
    line_first c e f fs is =
        rw e (ap (flat_map (λ (f : Frame). frame_line conn f.bytes)) is
        ∙ ap (λ (l : List ℕ). l ++ flat_map (λ (f : Frame). frame_line conn f.bytes) fs) (sym (is_line c e f fs is)))

    no_client : client_at p.now conn ≡ None → ⊥
    no_client e = let s = see limits (accepted h) p.now p.matches in let nothing : out ≡ [] = rw e at s in absurd (omega (arith, ap length nothing))

    no_first : (c : Client) → client_at p.now conn ≡ Some c → c.frames ≡ [] → ⊥
    no_first c e is = let nothing : out ≡ [] = shows c e ∙ unseen (accepted h) c is (whole c e) in absurd (omega (arith, ap length nothing))

    part_of : (w2 : Option (List ℕ)) → WritesPart w1 w2 line → (c : Client) → client_at p.now conn ≡ Some c → (fs : List Frame) → c.frames ≡ fs
        → WritesPart w0 w2 (frames_text h conn)
    part_of w2 part c e [] is = absurd (no_first c e is)
    part_of w2 part c e (f ∷ fs) is =
        subst (WritesPart w0 w2) p.said
        (part_after w0 w1 w2 p.text (frames_text p.now conn) p.written (subst (WritesPart w1 w2) (sym (line_first c e f fs is)) (part_more w1 w2 line _ part)))

    part_at : (w2 : Option (List ℕ)) → WritesPart w1 w2 line → (o : Option Client) → client_at p.now conn ≡ o → WritesPart w0 w2 (frames_text h conn)
    part_at w2 part None e = absurd (no_client e)
    part_at w2 part (Some c) e = part_of w2 part c e c.frames refl

    -- a beginning of the first line is written
    pub partly_part : (w2 : Option (List ℕ)) → WritesPart w1 w2 line → WritesPart w0 w2 (frames_text h conn)
    partly_part w2 part = part_at w2 part (client_at p.now conn) refl

    module _ (next : HubView) (w2 : Option (List ℕ)) (wrote : Appends w1 w2 line) (takes : Simulates hub next (λ _ h. consume h conn count)) where
      one_more : (c : Client) → client_at p.now conn ≡ Some c → (fs : List Frame) → c.frames ≡ fs → Partly limits h conn next w0 w2
      one_more c e [] is = absurd (no_first c e is)
      one_more c e (f ∷ fs) is =
          let frames = frames_of c e f fs is in
          let rest : Client = record c { frames = fs; consumed = 0 } in
          let now : Clients = with_client p.now conn rest in
          let taken : consume p.now conn count ≡ now =
          consume_frame p.now conn count c f fs e is (whole c e) (All-tail (λ (f : Frame). IsFrame f.bytes) f fs frames) (first_length c e f fs is) in
          let there : client_at now conn ≡ Some rest = value_here p.now.clients conn rest c e in
          let left : without_frames now conn ≡ without_frames p.now conn =
          rw there (rw e (ap (λ (t : List (ℕ × Client)). record p.now { clients = t }) (put_twice p.now.clients conn rest (emptied c)))) in
          let before : frames_text p.now conn ≡ line ++ frames_text now conn = line_first c e f fs is ∙ rw there refl in
          record {
            now = now;
            text = p.text ++ line;
            matches = subst (HubMatches limits (accepted h) next) taken (takes limits (accepted h) p.now p.matches);
            events = p.events;
            untouched = subst (λ (o : Option Client). IfSome o HasWholeFrames) (sym there) refl;
            left = left ∙ p.left;
            said = append_assoc p.text line (frames_text now conn) ∙ (ap (λ (l : List ℕ). p.text ++ l) (sym before) ∙ p.said);
            written = Appends-trans w0 w1 w2 p.text line p.written wrote;
          }

      more_at : (o : Option Client) → client_at p.now conn ≡ o → Partly limits h conn next w0 w2
      more_at None e = absurd (no_client e)
      more_at (Some c) e = one_more c e c.frames refl

      -- one frame more: it is the first of the output, and its line is written
      pub partly_more : Partly limits h conn next w0 w2
      partly_more = more_at (client_at p.now conn) refl

  abbrev Done : Type 0
  Done = HubMatches limits (accepted h) hub (without_frames h conn) × Appends w0 w1 (frames_text h conn)

  done_at : without_frames p.now conn ≡ p.now → frames_text p.now conn ≡ [] → Done
  done_at same nothing = (
    subst (HubMatches limits (accepted h) hub) (sym same ∙ p.left) p.matches,
    subst (Appends w0 w1) (sym (append-nil p.text) ∙ (ap (λ (l : List ℕ). p.text ++ l) (sym nothing) ∙ p.said)) p.written,
  )

  none_more : length out ≡ 0 → (c : Client) → client_at p.now conn ≡ Some c → (fs : List Frame) → c.frames ≡ fs → Done
  none_more none c e [] is =
      done_at
      (rw e (ap (λ (t : List (ℕ × Client)). record p.now { clients = t })
      (ap (with_value nat_eq p.now.clients conn) (same_emptied c is (whole c e)) ∙ put_same p.now.clients conn c e)))
      (rw e (ap (flat_map (λ (f : Frame). frame_line conn f.bytes)) is))
  none_more none c e (f ∷ fs) is =
      let long = frame_nonempty f.bytes (All-head (λ (f : Frame). IsFrame f.bytes) f fs (frames_of c e f fs is)) in
      absurd (omega (arith, ap length (first_seen c e f fs is), length-append f.bytes (confirmed_bytes (accepted h) fs)))

  ended_at : length out ≡ 0 → (o : Option Client) → client_at p.now conn ≡ o → Done
  ended_at none None e = done_at (rw e refl) (rw e refl)
  ended_at none (Some c) e = none_more none c e c.frames refl

  -- no frame more
  pub partly_done : length out ≡ 0 → Done
  partly_done none = ended_at none (client_at p.now conn) refl
