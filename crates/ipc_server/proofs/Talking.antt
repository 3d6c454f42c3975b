-- What a client's bytes come to, and what it is sent.
use Rattle.std.proofs.Common.{◌≡◌, ◌≤◌, ◌==◌, ℕ, true, false, List, [], ◌∷◌, ◌++◌, Option}
use Rattle.std.proofs.Common.{Some, None, is_some, option_map, unwrap_or, refl, sym, ap, subst, ◌∙◌}
use Rattle.std.proofs.Common.{append_assoc, append-nil, inl, inr, take, drop, length, arith}
use Rattle.std.specs.Io.KnownBytes.{Appends, Consumes, Keeps, prepend_known}
use Rattle.std.proofs.lemmas.List.{map-append, take-append-drop}
use Rattle.std.proofs.lemmas.Grind.{flat_map-append}
use Rattle.ipc_disk.specs.Counts.{Counts}
use Rattle.ipc_disk.specs.Medium.{Image, Medium}
use Rattle.ipc_store.specs.declared.fault.CommitError.{CommitError}
use Rattle.ipc_store.specs.declared.fault.CommitError.TheVariants as commit
use Rattle.ipc_hub.specs.Clients.{consume}
use Rattle.ipc_hub.specs.View.{ConnectionView, HubView, StoredHub, connection_of, is_connected, output_of}
use Rattle.ipc_hub.specs.Relations.Faults.{FailsWithin, Halts, HaltsFeed}
use Rattle.ipc_hub.specs.Relations.Matches.{ServesFeed, Simulates}
use Rattle.ipc_server.specs.Acts.{Piece, after, all_of, feeds, joined, sends}
use Rattle.ipc_server.specs.Acts.Act.{Consumes as to_consume, Feeds}
use Rattle.ipc_server.specs.Runs.{RunsCalls, FeedsInput, Sends, StopsAt, WritesOutput}
use Rattle.ipc_server.proofs.Going.{breaks-at, goes-none, makes-both, makes-none, makes-one, sends-both, sends-none, sends-one}

-- ---- known bytes

pub consumes-none : (known : Option (List ℕ)) → Consumes known known []
consumes-none None = tt
consumes-none (Some xs) = refl

pub consumes-both : (known mid left : Option (List ℕ)) (xs ys : List ℕ) → Consumes known mid xs → Consumes mid left ys → Consumes known left (xs ++ ys)
consumes-both None mid left xs ys one two = tt
consumes-both (Some all) None left xs ys one two = absurd one
consumes-both (Some all) (Some mid) None xs ys one two = absurd two
consumes-both (Some all) (Some mid) (Some left) xs ys one two = one ∙ ap (λ zs. xs ++ zs) two ∙ sym (append_assoc xs ys left)

-- what is kept is consumed as before
pub kept-consumes : (known mid left : Option (List ℕ)) (xs : List ℕ) → Keeps known mid → Consumes mid left xs → Consumes known left xs
kept-consumes None mid left xs same uses = tt
kept-consumes (Some all) None left xs same uses = absurd same
kept-consumes (Some all) (Some mid) left xs same uses = rw (sym same) uses

-- what is there of a piece of no bytes
pub empty-kept : (bytes : List ℕ) (known now : Option (List ℕ)) → length bytes ≡ 0 → Keeps known now → Keeps (prepend_known bytes known) now
empty-kept [] None now none same = tt
empty-kept [] (Some xs) now none same = same
empty-kept (b ∷ bytes) known now none same = absurd (omega (arith, none))

-- the first bytes of a piece are consumed
pub piece-consumes : (bytes : List ℕ) (count : ℕ) (known : Option (List ℕ))
    → Consumes (prepend_known bytes known) (prepend_known (drop count bytes) known) (take count bytes)
piece-consumes bytes count None = tt
piece-consumes bytes count (Some xs) =
    ap (λ ys. ys ++ xs) (sym (take-append-drop count bytes)) ∙ append_assoc (take count bytes) (drop count bytes) xs

pub appends-none : (known : Option (List ℕ)) → Appends known known []
appends-none None = tt
appends-none (Some xs) = sym (append-nil xs)

pub appends-both : (known mid all : Option (List ℕ)) (xs ys : List ℕ) → Appends known mid xs → Appends mid all ys → Appends known all (xs ++ ys)
appends-both None mid all xs ys one two = tt
appends-both (Some zs) None all xs ys one two = absurd one
appends-both (Some zs) (Some mid) None xs ys one two = absurd two
appends-both (Some zs) (Some mid) (Some all) xs ys one two = two ∙ ap (λ ws. ws ++ ys) one ∙ append_assoc zs xs ys

-- ---- what a client is sent

-- a connection that shows something is there
pub shown-there : (hub : HubView) (conn : ℕ) → (length (output_of hub conn) == 0) ≡ false → is_connected hub conn ≡ true
shown-there hub conn some = by (connection_of hub conn) refl
  where
    by : (found : Option ConnectionView) → connection_of hub conn ≡ found → is_connected hub conn ≡ true
    by None is =
        let never : true ≡ false =
        sym (ap (λ (r : Option ConnectionView). length (unwrap_or (option_map (λ c. c.outbox.visible) r) []) == 0) is) ∙ some in
        cc
    by (Some c) is = ap is_some is

module _ {D : Type 0} (conn : ℕ) where
  pub tells-none : (hub : StoredHub D) (known : Option (List ℕ)) → WritesOutput conn hub hub known known
  tells-none hub known = ([], sends-none hub, refl, appends-none known)

  pub tells-both : (old mid new : StoredHub D) (known some all : Option (List ℕ)) → WritesOutput conn old mid known some
      → WritesOutput conn mid new some all → WritesOutput conn old new known all
  tells-both old mid new known some all one two =
      let same : joined (one.0 ++ two.0) ≡ joined one.0 ++ joined two.0 = flat_map-append (λ bytes. bytes) one.0 two.0 in (
        one.0 ++ two.0,
        subst (Sends old new) (sym (map-append (λ bytes. to_consume conn bytes) one.0 two.0))
            (sends-both old mid new (sends conn one.0) (sends conn two.0) one.1 two.1),
        one.2 ∙ ap (λ (xs : List ℕ). joined one.0 ++ xs) two.2 ∙ sym (append_assoc (joined one.0) (joined two.0) (output_of new.hub conn))
            ∙ ap (λ (xs : List ℕ). xs ++ output_of new.hub conn) (sym same),
        subst (Appends known all) (sym same) (appends-both known some all (joined one.0) (joined two.0) one.3 two.3),
      )

  -- a write that took nothing
  -- one write, and what it took is consumed
  pub tells-one : (old new : StoredHub D) (count : ℕ) (known all : Option (List ℕ)) → count ≤ length (output_of old.hub conn)
      → is_connected old.hub conn ≡ true → Simulates old.hub new.hub (λ _ h. consume h conn count) → new.store ≡ old.store
      → output_of new.hub conn ≡ drop count (output_of old.hub conn) → Appends known all (take count (output_of old.hub conn))
      → WritesOutput conn old new known all
  tells-one old new count known all within there does store rest appends =
      let shown : List ℕ = output_of old.hub conn in
      let bytes : List ℕ = take count shown in (
        bytes ∷ [],
        sends-one old new conn count within there does store,
        sym (take-append-drop count shown) ∙ ap (λ (xs : List ℕ). bytes ++ xs) (sym rest)
            ∙ ap (λ (xs : List ℕ). xs ++ output_of new.hub conn) (sym (append-nil bytes)),
        subst (Appends known all) (sym (append-nil bytes)) appends,
      )

-- ---- what a client's bytes come to

pub feeds-both : (conn moment : ℕ) (pieces others : List Piece) → feeds conn moment (pieces ++ others) ≡ feeds conn moment pieces ++ feeds conn moment others
feeds-both conn moment pieces others = map-append (λ p. Feeds conn p.bytes moment p.refused) pieces others

pub all-both : (pieces others : List Piece) → all_of (pieces ++ others) ≡ all_of pieces ++ all_of others
all-both pieces others = flat_map-append (λ p. p.bytes) pieces others

module _ {D : Type 0} (medium : D → Medium) (conn moment : ℕ) where
  pub hears-goes : (old new : StoredHub D) (there left : Option (List ℕ)) → FeedsInput medium conn moment old new there left → RunsCalls medium moment old new
  hears-goes old new there left hears limits h m =
      let a = hears limits h m in (feeds conn moment a.0, a.1)

  pub hears-both : (old mid new : StoredHub D) (there some left : Option (List ℕ)) → FeedsInput medium conn moment old mid there some
      → FeedsInput medium conn moment mid new some left → FeedsInput medium conn moment old new there left
  hears-both old mid new there some left one two limits h m =
      let a = one limits h m in
      let now = after limits h (feeds conn moment a.0) in
      let b = two limits now a.1.comes.matches in (
        a.0 ++ b.0,
        rw (feeds-both conn moment a.0 b.0)
            (makes-both medium moment limits old mid new h (feeds conn moment a.0) (feeds conn moment b.0) a.1 b.1),
        rw (all-both a.0 b.0) (consumes-both there some left (all_of a.0) (all_of b.0) a.2 b.2),
      )

  pub hears-kept : (old new : StoredHub D) (there some left : Option (List ℕ)) → Keeps there some → FeedsInput medium conn moment old new some left
      → FeedsInput medium conn moment old new there left
  hears-kept old new there some left same hears limits h m =
      let a = hears limits h m in (a.0, a.1, kept-consumes there some left (all_of a.0) same a.2)

  -- one piece was fed, of which so much was taken
  pub hears-one : (old new : StoredHub D) (bytes : List ℕ) (count : ℕ) (known : Option (List ℕ))
      → ServesFeed medium old new conn (take count bytes) moment
      → FeedsInput medium conn moment old new (prepend_known bytes known) (prepend_known (drop count bytes) known)
  hears-one old new bytes count known serves limits h m =
      let a = serves limits h m in
      let piece : Piece = record { bytes = take count bytes; refused = a.0 } in (
        piece ∷ [],
        makes-one medium moment limits old new h (Feeds conn (take count bytes) moment a.0) [] refl tt refl a.1,
        rw (append-nil (take count bytes)) (piece-consumes bytes count known),
      )

  pub hears-none : (law : (d : D) (image : Image) → (medium d).images_since (medium d).moment image → (medium d).images_now image)
      (hub : StoredHub D) (known : Option (List ℕ)) → FeedsInput medium conn moment hub hub known known
  hears-none law hub known limits h m = ([], makes-none medium law moment limits hub h m, consumes-none known)

  -- a feed was refused before it did anything else, or it failed when some of the bytes were taken
  module _ (law : (d : D) (image : Image) → (medium d).images_since (medium d).moment image → (medium d).images_now image) (counts : D → Counts)
      (old new : StoredHub D) (bytes : List ℕ) where
    failed : (e : CommitError) (w : FailsWithin medium counts old new conn bytes moment e) → Halts medium counts w.fed new e
    failed commit.Device w = w.fails
    failed commit.Stopped w = inr w.fails

    pub feed-breaks : (e : CommitError) → HaltsFeed medium counts old new conn bytes moment e → StopsAt medium counts moment old new e
    feed-breaks e (inl halts) = breaks-at medium counts moment old old new e (goes-none medium law moment old) halts
    feed-breaks e (inr w) =
        breaks-at medium counts moment old w.fed new e
        (hears-goes old w.fed None None (hears-one old w.fed bytes w.taken None w.feeds)) (failed e w)
