-- The calls of the hub over its rows: a connection comes, goes, is released, or has its output consumed, and the disk has failed.
use Rattle.std.proofs.Common.{◌≡◌, ◌≢◌, ℕ, ◌+◌, ◌<◌, ◌≤◌, ◌^◌, List, [], ◌++◌, length, drop, Option, Some, None, refl, sym, ap, ◌∙◌, subst, arith, inl, false}
use Rattle.std.proofs.Common.{true, rules}
use Rattle.std.proofs.Common.{inr, ◌∷◌, append-nil}
use Rattle.std.specs.Prelude.{nat_eq, option_map, unwrap_or, nat_le, is_some, not, ◌==◌, ◌&&◌, ◌||◌}
use Rattle.std.proofs.lemmas.Bool.{cases_eq}
use Rattle.std.proofs.lemmas.List.{length-append, drop_all, drop-drop, drop-append-le, length-drop}
use Rattle.std.proofs.lemmas.List.Elements.{All-weaker, All-push}
use Rattle.ipc_limits.specs.Limits.{longest_reply}
use Rattle.ipc_base.specs.Table.{value_at, with_entry, without, keys_of, seen_as, ArePaired, IsRising}
use Rattle.ipc_limits.specs.declared.limits.Limits.{Limits}
use Rattle.ipc_base.proofs.CallerLemmas.{nobody, each-entry, each-without, each-seen, entry-at, entry-other, rising-entry, rising-without, rising-gone}
use Rattle.ipc_base.proofs.CallerLemmas.{value_at-without, paired-entry, paired-without, paired-seen, at-map, keys-map}
use Rattle.ipc_base.proofs.CallerLemmas.{other-with, test_cases, same_keys}
use Rattle.ipc_wire.proofs.CallerLemmas.{first_short, length-reply_bytes}
use Rattle.ipc_hub.specs.Clients.{accepted, Frame, Client, Clients, start_client, with_client, all_bytes, confirmed_bytes, consumed_from, shown_at}
use Rattle.ipc_hub.specs.Clients.{process_at, ended_at, connect, consume, refusal, confirmed_frames, cut_off, fail}
use Rattle.ipc_hub.specs.View.{ConnectionView, HubView, StoredHub, output_of, ended_of, kept}
use Rattle.ipc_hub.proofs.Rows.{process_of}
use Rattle.ipc_hub.specs.Relations.Rows.{Table, process_in, output_in, changed}
use Rattle.ipc_engine.specs.Bytes.{most_owed}
use Rattle.ipc_hub.specs.Relations.Delivery.{owed_to, released, consumed, failed}
use Rattle.ipc_hub.specs.Relations.Invariant.{IsSoundConnection, IsSoundIn, IsNew, HubInvariant, StoredInvariant, IsNobodys}
use Rattle.ipc_hub.specs.Relations.Matches.{IsFrame, ClientMatches, HubMatches, AreFrames}
use Rattle.ipc_hub.proofs.Deliveries.{confirmed-weaker, IsOf, all-confirmed, confirmed-short}
use Rattle.ipc_hub.proofs.Deliveries.{consumed-bytes, consumed-shown, consumed-all, table-matches, frames-later}
use Rattle.ipc_hub.proofs.Keeping.{seen-same, table-invariant, by-changed, changed-invariant, at-changed}
use Rattle.ipc_hub.proofs.Ending.{change-matches, pair-at}
use Rattle.std.proofs.lemmas.Bool.Decides.{nat_tests}
use Rattle.std.proofs.lemmas.Grind.{flat_map-append}
use Rattle.ipc_base.specs.declared.errno.Errno.TheVariants.{EIO}
use Rattle.ipc_wire.specs.Reply.{reply_bytes}
use Rattle.ipc_engine.specs.View.{reply_of}

-- ---- a connection comes

pub entry-invariant : (h : HubView) (conn : ℕ) (v : ConnectionView) → HubInvariant h → conn < 2 ^ 32 → value_at nat_eq h.connections conn ≡ None
    → IsNew (most_owed h.limits + longest_reply h.limits) v → HubInvariant (record h { connections = with_entry h.connections conn v })
entry-invariant h conn v inv small none new =
    table-invariant h (with_entry h.connections conn v) inv
    (λ k pid is. elim (cases_eq k conn) [
      | inl same ↦
          let here : v.process ≡ Some pid = sym (ap process_of (entry-at h.connections conn v none)) ∙ (rw same at is) in
          let never : None ≡ Some pid = sym new.process ∙ here in cc
      | inr apart ↦ sym (ap process_of (entry-other h.connections conn k v apart)) ∙ is
    ])
    (each-entry (IsSoundIn h) h.connections conn v inv.each
    (record {
      input = rw new.input (first_short [] (omega arith));
      last = λ _. rw new.process (omega (arith, new.space));
      over = λ ended. let never : false ≡ true = sym new.ended ∙ ended in cc;
      spare = omega (arith, new.space);
      size = omega (arith, new.space);
    }))
    (rising-entry 0 h.connections (2 ^ 32) conn v inv.rising (omega arith) small none)

pub entry-matches : (limits : Limits) (confirmed : ℕ) (old new : HubView) (h : Clients) (conn : ℕ) (v : ConnectionView) (reply : ℕ)
    → HubMatches limits confirmed old h → new.limits ≡ old.limits → new.state ≡ old.state → new.connections ≡ with_entry old.connections conn v
    → IsNew reply v → HubMatches limits confirmed new (connect h conn)
entry-matches limits confirmed old new h conn v reply m same state rows n =
    table-matches limits confirmed confirmed old new h (with_entry old.connections conn v) (with_entry h.clients conn start_client) m same state rows m.known
    (paired-entry (ClientMatches confirmed (accepted h)) old.connections h.clients conn v start_client m.clients
    (record {
      process = n.process;
      input = n.input;
      ended = n.ended;
      kept = ap (λ (bs : List ℕ). bs ++ v.outbox.waiting) n.visible ∙ n.waiting;
      visible = n.visible;
      seen = omega arith;
      frames = λ k d none. absurd (omega (arith, none));
    }))

-- ---- a connection goes

-- whose process a process is then: not that of the one that has gone
process-without : (h : HubView) (conn k pid : ℕ) → HubInvariant h → process_in (without nat_eq h.connections conn) k ≡ Some pid
    → (k ≢ conn) × (process_in h.connections k ≡ Some pid)
process-without h conn k pid inv is =
    elim (cases_eq k conn) [
      | inl same ↦
          let gone : process_in (without nat_eq h.connections conn) conn ≡ None =
          ap process_of (nobody (value_at nat_eq (without nat_eq h.connections conn) conn) (rising-gone 0 h.connections (2 ^ 32) conn inv.rising)) in
          let never : None ≡ Some pid = sym gone ∙ (rw same at is) in cc
      | inr apart ↦ (apart, sym (ap process_of (value_at-without h.connections conn k apart)) ∙ is)
    ]

pub without-invariant : (h : HubView) (conn : ℕ) → HubInvariant h → HubInvariant (record h { connections = without nat_eq h.connections conn })
without-invariant h conn inv = search (rules, each-without, process-without, rising-without, table-invariant)

pub without-nobodys : (h : HubView) (conn : ℕ) → HubInvariant h → IsNobodys (without nat_eq h.connections conn) (process_in h.connections conn)
without-nobodys h conn inv k pid mine is = let other = process-without h conn k pid inv is in other.0 (inv.own.one k conn pid other.1 mine)

-- ---- numbers

-- a number more is in use
pub entry-joins : (before : Table) (conn : ℕ) (v : ConnectionView) (other : ℕ) → value_at nat_eq before conn ≡ None
    → is_some (value_at nat_eq (with_entry before conn v) other) ≡ (other == conn || is_some (value_at nat_eq before other))
entry-joins before conn v other none =
    elim (test_cases (nat_eq other conn)) [
      | inl t ↦ let same : other ≡ conn = grind (arith, nat_tests) in rw t (rw same (ap is_some (entry-at before conn v none)))
      | inr f ↦ rw f (ap is_some (entry-other before conn other v (λ same. grind (arith, nat_tests))))
    ]

-- a number is free, when time has passed, and the numbers that are left stay
pub without-leaves : (before mid left after : Table) (conn other : ℕ) → keys_of mid ≡ keys_of before → left ≡ without nat_eq mid conn
    → keys_of after ≡ keys_of left → IsRising 0 (keys_of mid) (2 ^ 32)
    → is_some (value_at nat_eq after other) ≡ (not (other == conn) && is_some (value_at nat_eq before other))
without-leaves before mid left after conn other passed taken stay rising =
    same_keys after left other stay ∙ ap (λ (t : Table). is_some (value_at nat_eq t other)) taken ∙
    elim (test_cases (nat_eq other conn)) [
      | inl t ↦ let same : other ≡ conn = grind (arith, nat_tests) in rw t (rw same (rising-gone 0 mid (2 ^ 32) conn rising))
      | inr f ↦ rw f (ap is_some (value_at-without mid conn other (λ same. grind (arith, nat_tests))) ∙ same_keys mid before other passed)
    ]

-- a connection has the process of its client
pub process-matches : (limits : Limits) (confirmed : ℕ) (old : HubView) (h : Clients) (conn : ℕ) → HubMatches limits confirmed old h
    → process_in old.connections conn ≡ process_at h conn
process-matches limits confirmed old h conn m =
    elim (pair-at limits confirmed old h conn m) [ inl none ↦ rw (none.0, none.1) refl | inr p ↦ rw (p.at, p.here) p.mine.process ]

pub without-matches : (limits : Limits) (confirmed : ℕ) (old new : HubView) (h : Clients) (conn : ℕ) → HubMatches limits confirmed old h
    → new.limits ≡ old.limits → new.state ≡ old.state → new.connections ≡ without nat_eq old.connections conn
    → HubMatches limits confirmed new (record h { clients = without nat_eq h.clients conn })
without-matches limits confirmed old new h conn m same state rows = search (rules, paired-without, table-matches)

-- ---- all frames are seen

released-kept : (limits : Limits) (owed : Option ℕ → ℕ) (v : ConnectionView) → IsSoundConnection limits owed v → IsSoundConnection limits owed (released v)
released-kept limits owed v k =
    record { input = k.input; last = k.last; over = k.over; spare = k.spare; size = omega (arith, k.size, length-append (kept v.outbox) []) }

pub released-invariant : (h : HubView) → HubInvariant h → HubInvariant (record h { connections = seen_as released h.connections })
released-invariant h inv =
    table-invariant h (seen_as released h.connections) inv
    (λ k pid is. by_value (value_at nat_eq h.connections k) (sym (ap process_of (at-map released h.connections k)) ∙ is))
    (each-seen (IsSoundIn h) (IsSoundIn h) (IsSoundIn h) h.connections released inv.each inv.each
    (λ v k _. released-kept h.limits (owed_to h.limits h.state) v k))
    (rw (keys-map released h.connections) inv.rising)
  where
    by_value : (r : Option ConnectionView) {pid : ℕ} → process_of (option_map released r) ≡ Some pid → process_of r ≡ Some pid
    by_value None is = is
    by_value (Some v) is = is

released-matches : (confirmed accepted : ℕ) (v : ConnectionView) (c : Client) → ClientMatches confirmed accepted v c
    → ClientMatches accepted accepted (released v) c
released-matches confirmed accepted v c m =
    let all = all-confirmed accepted c.frames m.frames in
    record {
      process = m.process;
      input = m.input;
      ended = m.ended;
      kept = append-nil (kept v.outbox) ∙ m.kept;
      visible = m.kept ∙ ap (drop c.consumed) (sym all);
      seen = omega (arith, m.seen, ap length all, confirmed-short confirmed c.frames);
      frames = m.frames;
    }

pub release-matches : (limits : Limits) (confirmed : ℕ) (old new : HubView) (h : Clients) → HubMatches limits confirmed old h → new.limits ≡ old.limits
    → new.state ≡ old.state → new.connections ≡ seen_as released old.connections → HubMatches limits (accepted h) new h
release-matches limits confirmed old new h m same state rows =
    table-matches limits confirmed (accepted h) old new h (seen_as released old.connections) h.clients m same state rows (omega arith)
    (subst (ArePaired (ClientMatches (accepted h) (accepted h)) (seen_as released old.connections)) (seen-same h.clients)
    (paired-seen (ClientMatches confirmed (accepted h)) (ClientMatches (accepted h) (accepted h)) old.connections h.clients released (λ c. c) m.clients
    (released-matches confirmed (accepted h))))

-- ---- some output is taken

pub consumed-kept : (limits : Limits) (owed : Option ℕ → ℕ) (v : ConnectionView) (n : ℕ) → n ≤ length v.outbox.visible → IsSoundConnection limits owed v
    → IsSoundConnection limits owed (consumed n v)
consumed-kept limits owed v n within k =
    record {
      input = k.input;
      last = λ live. omega (arith, k.last live);
      over = k.over;
      spare = omega (arith, k.spare);
      size = omega (
        arith,
        k.size,
        within,
        length-append v.outbox.visible v.outbox.waiting,
        length-append (drop n v.outbox.visible) v.outbox.waiting,
        length-drop n v.outbox.visible,
      );
    }

pub has-bytes : (f : Frame) → IsFrame f.bytes → 0 < length f.bytes
has-bytes f is = omega (arith, ap length is.1.0, length-reply_bytes is.0)

-- what the client of a connection is after that
abbrev pub taken_by : ℕ → Client → Client
taken_by n c = record c { frames = (consumed_from c.frames (c.consumed + n)).0; consumed = (consumed_from c.frames (c.consumed + n)).1 }

consumed-matches : (confirmed accepted : ℕ) (v : ConnectionView) (c : Client) (n : ℕ) → n ≤ length v.outbox.visible → ClientMatches confirmed accepted v c
    → ClientMatches confirmed accepted (consumed n v) (taken_by n c)
consumed-matches confirmed accepted v c n within m =
    let most : n ≤ length (drop c.consumed (confirmed_bytes confirmed c.frames)) = omega (arith, within, ap length m.visible) in
    let fits : c.consumed + n ≤ length (confirmed_bytes confirmed c.frames) = omega
    (arith, most, m.seen, length-drop c.consumed (confirmed_bytes confirmed c.frames)) in
    let shows = consumed-shown confirmed c.frames (c.consumed + n) (All-weaker (IsOf accepted) (λ (f : Frame). 0 < length f.bytes)
    (λ f is. has-bytes f is.1) c.frames m.frames) fits in
    record {
      process = m.process;
      input = m.input;
      ended = m.ended;
      kept = sym (drop-append-le n v.outbox.visible v.outbox.waiting within) ∙ ap (drop n) m.kept
          ∙ drop-drop n c.consumed (all_bytes c.frames) ∙ sym (consumed-bytes c.frames (c.consumed + n));
      visible = ap (drop n) m.visible ∙ drop-drop n c.consumed (confirmed_bytes confirmed c.frames) ∙ sym shows.0;
      seen = shows.1;
      frames = consumed-all (IsOf accepted) c.frames (c.consumed + n) m.frames;
    }

pub consume-matches : (limits : Limits) (confirmed : ℕ) (old new : HubView) (h : Clients) (conn n : ℕ) → HubMatches limits confirmed old h
    → n ≤ length (output_of old conn) → new.limits ≡ old.limits → new.state ≡ old.state
    → new.connections ≡ changed (consumed n) conn old.connections → HubMatches limits confirmed new (consume h conn n)
consume-matches limits confirmed old new h conn n m within same state rows =
    elim (pair-at limits confirmed old h conn m) [
      | inl none ↦
          let to : consume h conn n ≡ h = rw none.1 refl in
          rw to (table-matches limits confirmed confirmed old new h old.connections h.clients m same state (rows ∙ rw none.0 refl) m.known m.clients)
      | inr p ↦
          let to : consume h conn n ≡ with_client h conn (taken_by n p.c) = rw p.here refl in
          let most : n ≤ length p.v.outbox.visible = rw p.at at within in
          rw to (change-matches limits confirmed old new h conn (consumed n p.v) (taken_by n p.c) m same state (rows ∙ rw p.at refl)
          (consumed-matches confirmed (accepted h) p.v p.c n most p.mine))
    ]

pub consumed-stands : {D : Type 0} (v : StoredHub D) (conn n : ℕ) → n ≤ length (output_of v.hub conn) → StoredInvariant v
    → StoredInvariant (record v { hub = record (v.hub) { connections = changed (consumed n) conn v.hub.connections } })
consumed-stands v conn n within inv on =
    changed-invariant v.hub conn (consumed n) (inv on)
    (λ c is k. (λ pid mine. mine, consumed-kept v.hub.limits (owed_to v.hub.limits v.hub.state) c n (rw is at within) k))

pub consumed-output : (table : Table) (conn n : ℕ) → output_in (changed (consumed n) conn table) conn ≡ drop n (output_in table conn)
consumed-output table conn n =
    ap shows (at-changed (consumed n) conn table) ∙ by_value (value_at nat_eq table conn)
  where
    shows : Option ConnectionView → List ℕ
    shows r = unwrap_or (option_map (λ c. c.outbox.visible) r) []

    by_value : (r : Option ConnectionView) → shows (option_map (consumed n) r) ≡ drop n (shows r)
    by_value None = sym (drop_all n [] (omega arith))
    by_value (Some c) = refl

pub consumed-others : (table : Table) (conn n other : ℕ) → other ≢ conn → output_in (changed (consumed n) conn table) other ≡ output_in table other
consumed-others table conn n other apart = search (rules, by-changed, other-with)

-- ---- what is seen

pub shown-matches : (limits : Limits) (confirmed : ℕ) (old : HubView) (h : Clients) (conn : ℕ) → HubMatches limits confirmed old h
    → (output_of old conn ≡ shown_at confirmed h conn) × (ended_of old conn ≡ ended_at h conn)
shown-matches limits confirmed old h conn m =
    elim (pair-at limits confirmed old h conn m) [ inl none ↦ rw (none.0, none.1) (refl, refl) | inr p ↦ rw (p.at, p.here) (p.mine.visible, p.mine.ended) ]

-- ---- the disk has failed: what the clients could see stays, and an EIO frame is the last of each

confirmed-all : (confirmed : ℕ) (frames : List Frame) → all_bytes (confirmed_frames confirmed frames) ≡ confirmed_bytes confirmed frames
confirmed-all confirmed [] = refl
confirmed-all confirmed (f ∷ fs) =
    elim (test_cases (nat_le f.mark confirmed)) [ inl t ↦ rw t (ap (λ bytes. f.bytes ++ bytes) (confirmed-all confirmed fs)) | inr t ↦ rw t refl ]

failed-matches : (confirmed accepted : ℕ) → confirmed ≤ accepted → (v : ConnectionView) (c : Client) → ClientMatches confirmed accepted v c
    → ClientMatches confirmed accepted (failed v) (cut_off confirmed c)
failed-matches confirmed accepted known v c m =
    let bytes : List ℕ = reply_bytes (reply_of (refusal 0 EIO)) in
    let last : Frame = record { mark = confirmed; bytes = bytes } in
    let left : List Frame = confirmed_frames confirmed c.frames in
    let frames : AreFrames confirmed (left ++ last ∷ []) =
    All-push (IsOf confirmed) left last (confirmed-weaker (IsOf accepted) (IsOf confirmed) confirmed c.frames (λ f le is. (le, is.1)) m.frames)
    (omega arith, (reply_of (refusal 0 EIO), (refl, omega arith))) in
    let all : all_bytes (left ++ last ∷ []) ≡ confirmed_bytes confirmed c.frames ++ bytes =
    flat_map-append (λ (f : Frame). f.bytes) left (last ∷ [])
    ∙ ap (λ (bs : List ℕ). bs ++ (bytes ++ [])) (confirmed-all confirmed c.frames)
    ∙ ap (λ (bs : List ℕ). confirmed_bytes confirmed c.frames ++ bs) (append-nil bytes) in
    let known_all : confirmed_bytes confirmed (left ++ last ∷ []) ≡ all_bytes (left ++ last ∷ []) = all-confirmed confirmed (left ++ last ∷ []) frames in
    let shows : v.outbox.visible ++ bytes ≡ drop c.consumed (all_bytes (left ++ last ∷ [])) =
    ap (λ (bs : List ℕ). bs ++ bytes) m.visible ∙ sym (drop-append-le c.consumed (confirmed_bytes confirmed c.frames) bytes m.seen)
    ∙ ap (drop c.consumed) (sym all) in
    record {
      process = refl;
      input = refl;
      ended = refl;
      kept = append-nil (v.outbox.visible ++ bytes) ∙ shows;
      visible = shows ∙ ap (drop c.consumed) (sym known_all);
      seen = omega (arith, m.seen, ap length known_all, ap length all, length-append (confirmed_bytes confirmed c.frames) bytes);
      frames = frames-later confirmed accepted (left ++ last ∷ []) known frames;
    }

-- the disk has failed
pub fail-matches : (limits : Limits) (confirmed : ℕ) (old new : HubView) (h : Clients) → HubMatches limits confirmed old h → new.limits ≡ old.limits
    → new.state ≡ old.state → new.connections ≡ seen_as failed old.connections → HubMatches limits confirmed new (fail confirmed h)
fail-matches limits confirmed old new h m same state rows = search (rules, failed-matches, paired-seen, table-matches)
