-- The frames that a connection shows.
use Rattle.std.proofs.Common.{◌≡◌, ℕ, true, List, [], ◌∷◌, ◌++◌, Option, Some, None, is_some, option_map, unwrap_or, refl, sym, ap, subst, ◌∙◌, inl, inr, drop}
use Rattle.std.specs.Prelude.{nat_le, All, map}
use Rattle.std.proofs.lemmas.List.Elements.{All-map}
use Rattle.ipc_base.proofs.CallerLemmas.{paired-at, test_cases}
use Rattle.ipc_limits.specs.declared.limits.Limits.{Limits}
use Rattle.ipc_hub.specs.Clients.{Client, Clients, Frame, accepted, all_bytes, confirmed_bytes, confirmed_frames}
use Rattle.ipc_hub.specs.Lives.{Seen, Shows, as_seen}
use Rattle.ipc_hub.specs.Relations.Matches.{ClientMatches, HubMatches}
use Rattle.ipc_hub.specs.View.{ConnectionView, HubView, connection_of, is_connected, output_of}

-- the frames that are confirmed have the bytes that are, and are the first ones
confirmed-all : (confirmed : ℕ) (frames : List Frame) → all_bytes (confirmed_frames confirmed frames) ≡ confirmed_bytes confirmed frames
confirmed-all confirmed [] = refl
confirmed-all confirmed (f ∷ fs) =
    elim (test_cases (nat_le f.mark confirmed)) [ inl t ↦ rw t (ap (λ bytes. f.bytes ++ bytes) (confirmed-all confirmed fs)) | inr t ↦ rw t refl ]

confirmed-first : (confirmed : ℕ) (frames : List Frame) → (others : List Frame) × (confirmed_frames confirmed frames ++ others ≡ frames)
confirmed-first confirmed [] = ([], refl)
confirmed-first confirmed (f ∷ fs) =
    let rest = confirmed-first confirmed fs in
    elim (test_cases (nat_le f.mark confirmed)) [
      | inl t ↦ (rest.0, rw t (ap (λ (l : List Frame). f ∷ l) rest.1))
      | inr t ↦ (f ∷ fs, rw t refl)
    ]

seen-frames : (conn : ℕ) (c : Client) (frames : List Frame) → map (λ (s : Seen). s.frame) (map (as_seen conn c) frames) ≡ frames
seen-frames conn c [] = refl
seen-frames conn c (f ∷ fs) = ap (λ (l : List Frame). f ∷ l) (seen-frames conn c fs)

-- what is seen in the output of a connection is its own, and has the bytes of the frames that it shows
pub seen-own : (v : HubView) (h : Clients) (conn : ℕ) (seen : List Seen) (s : Shows v h conn seen)
    → All (λ (x : Seen). x.conn ≡ conn) seen × (all_bytes (map (λ (x : Seen). x.frame) seen) ≡ all_bytes s.frames)
seen-own v h conn seen s = (
  subst (All (λ (x : Seen). x.conn ≡ conn)) (sym s.these)
      (All-map (λ (x : Seen). x.conn ≡ conn) (as_seen conn s.client) s.frames (λ k d within. refl)),
  ap (λ (l : List Seen). all_bytes (map (λ (x : Seen). x.frame) l)) s.these ∙ ap all_bytes (seen-frames conn s.client s.frames),
)

-- a connection shows frames of its client
pub shows-some : (limits : Limits) (confirmed : ℕ) (v : HubView) (h : Clients) (conn : ℕ) → HubMatches limits confirmed v h → is_connected v conn ≡ true
    → (seen : List Seen) × Shows v h conn seen
shows-some limits confirmed v h conn m there = by (connection_of v conn) refl there
  where
    by : (found : Option ConnectionView) → connection_of v conn ≡ found → is_some found ≡ true → (seen : List Seen) × Shows v h conn seen
    by None is some = cc
    by (Some r) is some =
        let mine = paired-at (ClientMatches confirmed (accepted h)) v.connections h.clients conn r m.clients is in
        let c = mine.0 in
        let frames : List Frame = confirmed_frames confirmed c.frames in
        let others = confirmed-first confirmed c.frames in
        let output : output_of v conn ≡ r.outbox.visible = ap (λ (o : Option ConnectionView). unwrap_or (option_map (λ k. k.outbox.visible) o) []) is in (
          map (as_seen conn c) frames,
          record {
            client = c;
            found = mine.1.0;
            frames = frames;
            others = others.0;
            first = others.1;
            these = refl;
            output = output ∙ mine.1.1.visible ∙ ap (drop c.consumed) (sym (confirmed-all confirmed c.frames));
          },
        )
