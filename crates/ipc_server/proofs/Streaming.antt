-- What the sockets of the clients give and take, over a walk and over a round.
use Rattle.std.proofs.Common.{◌≡◌, ◌≢◌, ℕ, true, false, List, [], ◌∷◌, ◌++◌, All, Option, Some, None, is_some, refl, sym, ap, subst, ◌∙◌, inl, inr}
use Rattle.std.proofs.Common.{append-nil}
use Rattle.std.specs.Io.KnownBytes.{Appends}
use Rattle.std.proofs.lemmas.Bool.{cases_eq}
use Rattle.std.proofs.lemmas.List.Elements.{All-append, All-cons, All-nil, All-push}
use Rattle.slab.specs.Slab.{Slab, Updates, get, with_value}
use Rattle.ipc_base.proofs.CallerLemmas.{same_keys}
use Rattle.ipc_disk.specs.Medium.{Image, Medium}
use Rattle.ipc_hub.specs.Clients.{tick}
use Rattle.ipc_hub.specs.Relations.Matches.{Serves}
use Rattle.ipc_hub.specs.View.{HubView, StoredHub, is_connected, numbers_of}
use Rattle.ipc_server.specs.declared.client.Client.{Client}
use Rattle.ipc_server.specs.Acts.{Act, Piece, Spares, all_of, fed, feeds, joined, sends, sent}
use Rattle.ipc_server.specs.Acts.Act.{HangsUp as to_hang_up, Releases, Ticks}
use Rattle.ipc_server.specs.Rounds.{EndsConnection, HangsUp}
use Rattle.ipc_server.specs.Rounds.HangsUp.{None as no_call, More as one_call}
use Rattle.ipc_server.specs.Rows.{IsServing, KeepsClients, clients_of, view_of}
use Rattle.ipc_server.specs.Runs.{FeedsInput, RunsSuch, WritesOutput}
use Rattle.ipc_server.specs.Streams.{AnswersEach, AreSent, Gets, Gives, HasMoved, HaveMoved, Hears, HearsEach, OnlyJoins}
use Rattle.ipc_server.specs.Streams.{PartsWith, SendsEach, SparesBoth, SparesEach, Streams, input_of}
use Rattle.ipc_server.specs.View.{ClientView, HaveConnections, HaveOwnNumbers, client_of}
use Rattle.ipc_server.proofs.Going.{Makes, made-both, made-one, made-such, sends-both, sends-none, such-both}
use Rattle.ipc_server.proofs.Parting.{answers-made, hangs-made, hangs-silent}
use Rattle.ipc_server.proofs.Standing.{changed-at, own-kept, same-at, stands-at, updates-value}
use Rattle.ipc_server.proofs.Talking.{appends-both, appends-none, consumes-both, consumes-none}
use Rattle.ipc_server.proofs.Telling.{answers-quiet, fed-both, fed-others, fed-own, feeds-silent, feeds-spare, sent-both, sent-others, sent-own}

-- what is moved in two steps is moved in one
record Moving {S : Type 0} (Moves : Client S → Client S → List ℕ → Type 0) : Type 0 where
  still : (c : Client S) → Moves c c []
  twice : (a b c : Client S) (xs ys : List ℕ) → Moves a b xs → Moves b c ys → Moves a c (xs ++ ys)

giving : {S : Type 0} (remaining : S → Option (List ℕ)) → Moving (Gives remaining)
giving remaining = record {
  still = λ c. consumes-none (input_of remaining c);
  twice = λ a b c. consumes-both (input_of remaining a) (input_of remaining b) (input_of remaining c);
}

getting : {S : Type 0} (contents : S → Option (List ℕ)) → Moving (Gets contents)
getting contents = record {
  still = λ c. appends-none (contents c.socket);
  twice = λ a b c. appends-both (contents a.socket) (contents b.socket) (contents c.socket);
}

module _ {S : Type 0} {Moves : Client S → Client S → List ℕ → Type 0} (m : Moving Moves) where
  moved-none : (slot : Option (Client S)) → HasMoved Moves slot slot []
  moved-none None = refl
  moved-none (Some c) = m.still c

  moved-twice : (a b c : Option (Client S)) (xs ys : List ℕ) → HasMoved Moves a b xs → HasMoved Moves b c ys → HasMoved Moves a c (xs ++ ys)
  moved-twice None None None xs ys one two = ap (λ (bytes : List ℕ). bytes ++ ys) one ∙ two
  moved-twice None None (Some c) xs ys one two = absurd two
  moved-twice None (Some b) c xs ys one two = absurd one
  moved-twice (Some a) None None xs ys one two =
      (one.0, subst (Moves a one.0) (sym (append-nil xs) ∙ ap (λ (bytes : List ℕ). xs ++ bytes) (sym two)) one.1)
  moved-twice (Some a) None (Some c) xs ys one two = absurd two
  moved-twice (Some a) (Some b) None xs ys one two = (two.0, m.twice a b two.0 xs ys one two.1)
  moved-twice (Some a) (Some b) (Some c) xs ys one two = m.twice a b c xs ys one two

  all-twice : (first then all : ℕ → List ℕ) (old mid new : Slab (Client S)) → ((number : ℕ) → all number ≡ first number ++ then number)
      → HaveMoved Moves first old mid → HaveMoved Moves then mid new → HaveMoved Moves all old new
  all-twice first then all old mid new same one two number =
      subst (HasMoved Moves (get old number) (get new number)) (sym (same number))
      (moved-twice (get old number) (get mid number) (get new number) (first number) (then number) (one number) (two number))

  -- one client moved bytes
  one-moved : (bytes : ℕ → List ℕ) (slab : Slab (Client S)) (key : ℕ) (was now : Client S) → get slab key ≡ Some was → Moves was now (bytes key)
      → ((number : ℕ) → number ≢ key → bytes number ≡ []) → HaveMoved Moves bytes slab (with_value slab key now)
  one-moved bytes slab key was now is moves others number =
      let next = with_value slab key now in
      let updates = updates-value slab key was now is in
      elim (cases_eq number key) [
        | inl same ↦ subst (λ (n : ℕ). HasMoved Moves (get slab n) (get next n) (bytes n)) (sym same)
            (subst (λ (r : Option (Client S)). HasMoved Moves r (get next key) (bytes key)) (sym is)
            (subst (λ (r : Option (Client S)). HasMoved Moves (Some was) r (bytes key)) (sym updates.changed) moves))
        | inr differs ↦ subst (HasMoved Moves (get slab number) (get next number)) (sym (others number differs))
            (subst (λ (r : Option (Client S)). HasMoved Moves (get slab number) r []) (sym (updates.others number differs)) (moved-none (get slab number)))
      ]

  -- one client was let go, and moved nothing
  one-left : (slab new : Slab (Client S)) (key : ℕ) → Updates slab new key None → HaveMoved Moves (λ number. []) slab new
  one-left slab new key updates number = elim (cases_eq number key) [
    | inl same ↦ subst (λ (r : Option (Client S)). HasMoved Moves (get slab number) r []) (sym (ap (get new) same ∙ updates.changed)) (closed (get slab number))
    | inr differs ↦ subst (λ (r : Option (Client S)). HasMoved Moves (get slab number) r []) (sym (updates.others number differs))
        (moved-none (get slab number))
  ]
    where
      closed : (a : Option (Client S)) → HasMoved Moves a None []
      closed None = refl
      closed (Some c) = (c, m.still c)

module _ {S : Type 0} where
  pub hears-nothing : (remaining : S → Option (List ℕ)) (slab : Slab (Client S)) → Hears remaining slab slab []
  hears-nothing remaining slab = record {
    fed = λ number. moved-none (giving remaining) (get slab number);
    silent = λ conn. refl;
    spares = λ conn. All-nil (Spares conn);
  }

  hears-twice : (remaining : S → Option (List ℕ)) (old mid new : Slab (Client S)) (acts others : List Act) → Hears remaining old mid acts
      → Hears remaining mid new others → Hears remaining old new (acts ++ others)
  hears-twice remaining old mid new acts others one two = record {
    fed = all-twice (giving remaining) (λ n. fed n acts) (λ n. fed n others) (λ n. fed n (acts ++ others)) old mid new (λ n. fed-both n acts others)
        one.fed two.fed;
    silent = λ conn. sent-both conn acts others ∙ ap (λ (bytes : List ℕ). bytes ++ sent conn others) (one.silent conn) ∙ two.silent conn;
    spares = λ conn. All-append (Spares conn) acts others (one.spares conn) (two.spares conn);
  }

  -- one client was read and fed
  hears-client : (remaining : S → Option (List ℕ)) (slab : Slab (Client S)) (key : ℕ) (was now : Client S) (moment : ℕ) (pieces : List Piece)
      → get slab key ≡ Some was → was.conn ≡ key → Gives remaining was now (all_of pieces)
      → Hears remaining slab (with_value slab key now) (feeds was.conn moment pieces)
  hears-client remaining slab key was now moment pieces is own gives =
      let acts = feeds was.conn moment pieces in
      let mine : fed key acts ≡ all_of pieces = ap (λ (n : ℕ). fed n acts) (sym own) ∙ fed-own was.conn moment pieces in
      record {
        fed = one-moved (giving remaining) (λ n. fed n acts) slab key was now is (subst (Gives remaining was now) (sym mine) gives)
            (λ n differs. fed-others was.conn n moment pieces (λ same. differs (sym same ∙ own)));
        silent = λ conn. feeds-silent was.conn conn moment pieces;
        spares = λ conn. feeds-spare was.conn conn moment pieces;
      }

  are-sent-twice : (contents : S → Option (List ℕ)) (old mid new : Slab (Client S)) (acts others : List Act) → AreSent contents old mid acts
      → AreSent contents mid new others → AreSent contents old new (acts ++ others)
  are-sent-twice contents old mid new acts others =
      all-twice (getting contents) (λ n. sent n acts) (λ n. sent n others) (λ n. sent n (acts ++ others)) old mid new (λ n. sent-both n acts others)

  -- one client was written to
  sent-client : (contents : S → Option (List ℕ)) (slab : Slab (Client S)) (key : ℕ) (was now : Client S) (pieces : List (List ℕ))
      → get slab key ≡ Some was → was.conn ≡ key → Gets contents was now (joined pieces)
      → AreSent contents slab (with_value slab key now) (sends was.conn pieces)
  sent-client contents slab key was now pieces is own gets =
      let acts = sends was.conn pieces in
      let mine : sent key acts ≡ joined pieces = ap (λ (n : ℕ). sent n acts) (sym own) ∙ sent-own was.conn pieces in
      one-moved (getting contents) (λ n. sent n acts) slab key was now is (subst (Gets contents was now) (sym mine) gets)
      (λ n differs. sent-others was.conn n pieces (λ same. differs (sym same ∙ own)))

  -- ---- sockets that are written nothing

  pub unsent-none : (contents : S → Option (List ℕ)) (slab : Slab (Client S)) → AreSent contents slab slab []
  unsent-none contents slab number = moved-none (getting contents) (get slab number)

  pub unsent-kept : (contents : S → Option (List ℕ)) (old slab : Slab (Client S)) (key : ℕ) (was now : Client S) → get slab key ≡ Some was
      → now.socket ≡ was.socket → AreSent contents old slab [] → AreSent contents old (with_value slab key now) []
  unsent-kept contents old slab key was now is same before =
      are-sent-twice contents old slab (with_value slab key now) [] [] before
      (one-moved (getting contents) (λ n. []) slab key was now is
      (subst (λ (s : S). Appends (contents was.socket) (contents s) []) (sym same) (appends-none (contents was.socket))) (λ n differs. refl))

  pub unsent-left : (contents : S → Option (List ℕ)) (old slab new : Slab (Client S)) (key : ℕ) → Updates slab new key None → AreSent contents old slab []
      → AreSent contents old new []
  unsent-left contents old slab new key updates before =
      are-sent-twice contents old slab new [] [] before (one-left (getting contents) slab new key updates)

  -- ---- walks

  -- a client that is left has another number than the one that was let go
  apart : (old new : Slab (Client S)) (key : ℕ) → Updates old new key None → (number : ℕ) → is_some (client_of (clients_of new) number) ≡ true
      → (number ≢ key) × (is_some (client_of (clients_of old) number) ≡ true)
  apart old new key updates number there = (differs, ap is_some (sym (same-at old new number (updates.others number differs))) ∙ there)
    where
      differs : number ≢ key
      differs = λ same.
          let never : false ≡ true =
          sym (ap is_some (changed-at old new key None updates)) ∙ ap (λ (n : ℕ). is_some (client_of (clients_of new) n)) (sym same) ∙ there in
          cc

  module _ {D : Type 0} where
    pub sends-each-none : (contents : S → Option (List ℕ)) (hub : StoredHub D) (slab : Slab (Client S)) → SendsEach contents hub hub slab slab
    sends-each-none contents hub slab =
        record { told = []; sends = sends-none hub; sent = λ own. unsent-none contents slab }

    -- one more client was written to
    pub sends-each-more : (contents : S → Option (List ℕ)) (first last next : StoredHub D) (begun slab : Slab (Client S)) (key : ℕ) (was now : Client S)
        → get slab key ≡ Some was → KeepsClients begun slab → WritesOutput was.conn last next (contents was.socket) (contents now.socket)
        → SendsEach contents first last begun slab → SendsEach contents first next begun (with_value slab key now)
    sends-each-more contents first last next begun slab key was now is keeps output before =
        let acts = sends was.conn output.0 in
        record {
          told = before.told ++ acts;
          sends = sends-both first last next before.told acts before.sends output.1;
          sent = λ own. are-sent-twice contents begun slab (with_value slab key now) before.told acts (before.sent own)
              (sent-client contents slab key was now output.0 is (own-kept begun slab keeps own key (view_of was) (stands-at slab key was is)) output.3);
        }

    module _ (medium : D → Medium) (moment : ℕ) where
      -- one more client was read and fed
      pub hears-more : (remaining : S → Option (List ℕ)) (first last next : StoredHub D) (begun slab : Slab (Client S)) (key : ℕ) (was now : Client S)
          → get slab key ≡ Some was → KeepsClients begun slab
          → FeedsInput medium was.conn moment last next (input_of remaining was) (input_of remaining now)
          → RunsSuch medium moment first last (HearsEach remaining begun slab)
          → RunsSuch medium moment first next (HearsEach remaining begun (with_value slab key now))
      hears-more remaining first last next begun slab key was now is keeps feeds_on before =
          such-both medium moment first last next (HearsEach remaining begun slab) (HearsEach remaining slab (with_value slab key now))
          (HearsEach remaining begun (with_value slab key now)) before
          (λ limits h m.
          let a = feeds_on limits h m in (
            feeds was.conn moment a.0,
            a.1,
            λ own. hears-client remaining slab key was now moment a.0 is (own key (view_of was) (stands-at slab key was is)) a.2,
          ))
          (λ acts others one two own. hears-twice remaining begun slab (with_value slab key now) acts others (one own) (two (own-kept begun slab keeps own)))

      pub parts-none : (hub : StoredHub D) (slab : Slab (Client S)) → PartsWith medium moment hub hub slab slab
      parts-none hub slab = record { acts = []; hangs_up = no_call; spares = λ begins number there. All-nil (Spares number) }

      -- one more client was let go
      pub parts-more : (first last next : StoredHub D) (begun old new : Slab (Client S)) (key : ℕ) (client : Client S) → get old key ≡ Some client
          → (IsServing first.hub begun → IsServing last.hub old) → Updates old new key None → EndsConnection medium moment client.conn last next
          → PartsWith medium moment first last begun old → PartsWith medium moment first next begun new
      parts-more first last next begun old new key client is serving updates (inl same) before = record {
        acts = before.acts;
        hangs_up = subst (λ (v : StoredHub D). HangsUp medium moment first v before.acts) (sym same) before.hangs_up;
        spares = λ begins number there. before.spares begins number (apart old new key updates number there).1;
      }
      parts-more first last next begun old new key client is serving updates (inr serves) before = record {
        acts = before.acts ++ to_hang_up client.conn moment ∷ [];
        hangs_up = one_call last next before.acts client.conn before.hangs_up serves;
        spares = λ begins number there.
            let left = apart old new key updates number there in
            let mine : client.conn ≡ key = (serving begins).connected.own key (view_of client) (stands-at old key client is) in
            All-push (Spares number) before.acts (to_hang_up client.conn moment) (before.spares begins number left.1) (λ same. left.0 (sym same ∙ mine));
      }

      -- ---- a round

      module _ (law : (d : D) (image : Image) → (medium d).images_since (medium d).moment image → (medium d).images_now image)
          (remaining contents : S → Option (List ℕ)) (first heard answered parted last : StoredHub D) (old read seen noted left new : Slab (Client S))
          (one : AnswersEach medium contents heard answered read seen) (parts : PartsWith medium moment answered parted noted left)
          (two : AnswersEach medium contents parted last left new) where
        -- the calls after all clients are read
        abbrev later : List Act
        later = (Releases ∷ one.told) ++ (parts.acts ++ Releases ∷ two.told)

        later-made : Makes medium moment heard last later
        later-made =
            made-both medium moment heard answered last (Releases ∷ one.told) (parts.acts ++ Releases ∷ two.told)
            (answers-made medium moment law heard answered one.told one.answers)
            (made-both medium moment answered parted last parts.acts (Releases ∷ two.told)
            (hangs-made medium moment law answered parted parts.acts parts.hangs_up)
            (answers-made medium moment law parted last two.told two.answers))

        later-fed : (conn : ℕ) → fed conn later ≡ []
        later-fed conn =
            fed-both conn (Releases ∷ one.told) (parts.acts ++ Releases ∷ two.told)
            ∙ ap (λ (bytes : List ℕ). bytes ++ fed conn (parts.acts ++ Releases ∷ two.told)) (answers-quiet medium heard answered one.told one.answers conn).0
            ∙ fed-both conn parts.acts (Releases ∷ two.told)
            ∙ ap (λ (bytes : List ℕ). bytes ++ fed conn (Releases ∷ two.told)) (hangs-silent medium moment answered parted parts.acts parts.hangs_up conn).0
            ∙ (answers-quiet medium parted last two.told two.answers conn).0

        later-sent : HaveOwnNumbers (clients_of read) → AreSent contents seen noted [] → AreSent contents noted left [] → HaveOwnNumbers (clients_of left)
            → AreSent contents read new later
        later-sent own kept closed own_left =
            all-twice (getting contents) (λ n. sent n one.told) (λ n. sent n two.told) (λ n. sent n later) read left new
            (λ n. sent-both n (Releases ∷ one.told) (parts.acts ++ Releases ∷ two.told)
            ∙ ap (λ (bytes : List ℕ). sent n one.told ++ bytes) (sent-both n parts.acts (Releases ∷ two.told)
            ∙ ap (λ (bytes : List ℕ). bytes ++ sent n two.told) (hangs-silent medium moment answered parted parts.acts parts.hangs_up n).1))
            (all-twice (getting contents) (λ n. sent n one.told) (λ n. []) (λ n. sent n one.told) read seen left (λ n. sym (append-nil (sent n one.told)))
            (one.sent own) (are-sent-twice contents seen noted left [] [] kept closed))
            (two.sent own_left)

        later-spares : IsServing answered.hub noted → SparesEach (clients_of left) later
        later-spares is number there =
            All-append (Spares number) (Releases ∷ one.told) (parts.acts ++ Releases ∷ two.told)
            (answers-quiet medium heard answered one.told one.answers number).1
            (All-append (Spares number) parts.acts (Releases ∷ two.told) (parts.spares is number there)
            (answers-quiet medium parted last two.told two.answers number).1)

        pub streams-all : RunsSuch medium moment first heard (HearsEach remaining old read)
            → AreSent contents seen noted [] → AreSent contents noted left [] → HaveOwnNumbers (clients_of old) → HaveOwnNumbers (clients_of read)
            → IsServing answered.hub noted → HaveOwnNumbers (clients_of left)
            → ((number : ℕ) → is_some (client_of (clients_of new) number) ≡ is_some (client_of (clients_of left) number))
            → RunsSuch medium moment first last (Streams remaining contents old new)
        streams-all hears kept closed own own_read is own_left stay =
            such-both medium moment first heard last (HearsEach remaining old read) (λ acts. acts ≡ later) (Streams remaining contents old new) hears
            (made-such medium moment heard last later (λ acts. acts ≡ later) later-made refl)
            (λ acts others heard_them same.
            let said = heard_them own in
            subst (λ (more : List Act). Streams remaining contents old new (acts ++ more)) (sym same) (record {
              read = read;
              fed = λ number. subst (HasMoved (Gives remaining) (get old number) (get read number))
                  (sym (fed-both number acts later ∙ ap (λ (bytes : List ℕ). fed number acts ++ bytes) (later-fed number) ∙ append-nil (fed number acts)))
                  (said.fed number);
              sent = λ number. subst (HasMoved (Gets contents) (get read number) (get new number))
                  (sym (sent-both number acts later ∙ ap (λ (bytes : List ℕ). bytes ++ sent number later) (said.silent number)))
                  (later-sent own_read kept closed own_left number);
              spares = λ number there. All-append (Spares number) acts later (said.spares number) (later-spares is number (sym (stay number) ∙ there));
            }))

-- ---- connections come

pub joins-both : (old mid new : HubView) (acts others : List Act) → OnlyJoins old mid acts → OnlyJoins mid new others → OnlyJoins old new (acts ++ others)
joins-both old mid new acts others one two = record {
  spares = λ number there. All-append (Spares number) acts others (one.spares number there) (two.spares number (one.stays number there));
  stays = λ number there. two.stays number (one.stays number there);
}

-- time passes, connections come, and the clients are served
pub spares-round : {D S : Type 0} (medium : D → Medium) (moment : ℕ) (old ticked joined new : StoredHub D) (before : List (Option ClientView))
    (remaining contents : S → Option (List ℕ)) (clients next : Slab (Client S)) → Serves medium old ticked (λ limits h. tick limits h moment)
    → numbers_of ticked.hub ≡ numbers_of old.hub
    → HaveConnections old.hub before → RunsSuch medium moment ticked joined (OnlyJoins ticked.hub joined.hub)
    → RunsSuch medium moment joined new (Streams remaining contents clients next)
    → RunsSuch medium moment old new (SparesBoth before (clients_of next))
spares-round medium moment old ticked joined new before remaining contents clients next serves numbers connected joins serve =
    let left = clients_of next in
    such-both medium moment old ticked new (λ acts. (conn : ℕ) → All (Spares conn) acts) (SparesBoth before left) (SparesBoth before left)
    (made-such medium moment old ticked (Ticks moment ∷ []) (λ acts. (conn : ℕ) → All (Spares conn) acts)
    (made-one medium moment old ticked (Ticks moment) refl tt (λ h. refl) serves)
    (λ conn. All-cons (Spares conn) (Ticks moment) [] tt (All-nil (Spares conn))))
    (such-both medium moment ticked joined new (OnlyJoins ticked.hub joined.hub) (Streams remaining contents clients next)
    (SparesBoth before left) joins serve
    (λ acts others one two number was is.
    let there : is_connected ticked.hub number ≡ true = same_keys ticked.hub.connections old.hub.connections number numbers ∙ connected.same number ∙ was in
    All-append (Spares number) acts others (one.spares number there) (two.spares number is)))
    (λ acts others one two number was is. All-append (Spares number) acts others (one number) (two number was is))
