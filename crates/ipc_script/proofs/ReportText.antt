-- The connections, reported one after the other.
use Rattle.std.proofs.Common.{◌≡◌, ◌^◌, ℕ, ◌+◌, ◌<◌, ◌≤◌, Bool, true, false, cond, ◌||◌, List, [], ◌∷◌, ◌++◌, length, map, get_or, set, Option, Some, None}
use Rattle.std.proofs.Common.{IfSome, refl, sym, ap, ◌∙◌, subst, inl, inr, arith, append_assoc, append-nil}
use Rattle.std.specs.Prelude.{nat_eq, option_map}
use Rattle.std.specs.List.{flat_map, list_any, IsDistinct}
use Rattle.std.specs.Io.KnownBytes.{Appends}
use Rattle.std.proofs.KnownBytes.{Appends-nil, Appends-trans}
use Rattle.std.proofs.lemmas.List.{length-append, map-append, length-map}
use Rattle.std.proofs.Math.Seq.{set-append_seam, get_or-append_seam}
use Rattle.std.proofs.lemmas.Bool.{eqb-true}
use Rattle.std.proofs.lemmas.Map.Keys.{IsDistinct-head, IsDistinct-tail}
use Rattle.ipc_limits.specs.declared.limits.Limits.{Limits}
use Rattle.ipc_state.specs.State.{State}
use Rattle.ipc_base.specs.Table.{keys_of, IsRising}
use Rattle.ipc_engine.specs.Event.{PlainEvent}
use Rattle.ipc_store.specs.View.{StoreView}
use Rattle.ipc_hub.specs.View.{HubView}
use Rattle.ipc_hub.specs.Clients.{accepted, Client, Clients, client_at, ended_at}
use Rattle.ipc_hub.specs.Relations.Matches.{HubMatches}
use Rattle.ipc_script.specs.declared.report.Opened.{Opened}
use Rattle.ipc_script.specs.Script.{Run, emptied, conn_text, reported, report, WritesPart}
use Rattle.ipc_script.specs.Relations.Matches.{RunMatchesBetween, HasWholeFrames, opened_of}
use Rattle.ipc_script.specs.Relations.Report.{without_frames, SimulatesReportAt}
use Rattle.ipc_base.proofs.CallerLemmas.{test_cases as test, flipped, same_key as same_number, distinct_tail}
use Rattle.ipc_base.proofs.CallerLemmas.{at-with as value_here, value_elsewhere, keys_of-with_value}
use Rattle.ipc_base.proofs.CallerLemmas.{same_table, at-map as value_mapped}
use Rattle.ipc_base.proofs.CallerLemmas.{keys-map as keys_mapped, no_value}
use Rattle.ipc_script.proofs.HubAndClients.{rising-distinct}
use Rattle.ipc_script.proofs.WrittenText.{part_after, part_more}

-- ---- the hub of which one connection's frames are taken

taken_here : (h : Clients) (n : ℕ) → client_at (without_frames h n) n ≡ option_map emptied (client_at h n)
taken_here h n = at (client_at h n) refl
  where
    at : (o : Option Client) → client_at h n ≡ o → client_at (without_frames h n) n ≡ option_map emptied (client_at h n)
    at None e = rw e (rw e refl)
    at (Some c) e = rw e (value_here h.clients n (emptied c) c e)

taken_elsewhere : (h : Clients) (n m : ℕ) → nat_eq n m ≡ false → client_at (without_frames h n) m ≡ client_at h m
taken_elsewhere h n m other = at (client_at h n) refl
  where
    at : (o : Option Client) → client_at h n ≡ o → client_at (without_frames h n) m ≡ client_at h m
    at None e = rw e refl
    at (Some c) e = rw e (value_elsewhere h.clients n m (emptied c) other)

-- nothing else of it changes
pub record IsLike (h now : Clients) : Type 0 where
  pub state : now.state ≡ h.state
  pub events : now.events ≡ h.events
  pub keys : keys_of now.clients ≡ keys_of h.clients

taken_like : (h : Clients) (n : ℕ) → IsLike h (without_frames h n)
taken_like h n = at (client_at h n) refl
  where
    at : (o : Option Client) → client_at h n ≡ o → IsLike h (without_frames h n)
    at None e = rw e (record { state = refl; events = refl; keys = refl })
    at (Some c) e = rw e (record { state = refl; events = refl; keys = keys_of-with_value nat_eq h.clients n (emptied c) })

-- ---- some of the connections

-- the frames of all but those that are left are taken
abbrev left_of : Clients → List ℕ → ℕ → Option Client
left_of h left n = cond (list_any (nat_eq n) left) (client_at h n) (option_map emptied (client_at h n))

-- some connections are reported, and some are left
pub record PartlyReported (limits : Limits) (r : Run) (hub : HubView) (opened : List Opened) (index : ℕ) (before after : Option (List ℕ)) : Type 0 where
  pub now : Clients
  pub text : List ℕ
  pub done : List ℕ
  pub left : List ℕ
  pub all : done ++ left ≡ keys_of r.hub.clients
  pub place : length done ≡ index
  pub apart : IsDistinct nat_eq left
  pub rising : IsRising 0 (keys_of r.hub.clients) (2 ^ 32)
  pub matches : HubMatches limits (accepted r.hub) hub now
  pub like : IsLike r.hub now
  pub clients : (n : ℕ) → client_at now n ≡ left_of r.hub left n
  pub kept : opened ≡ map (opened_of (reported r).told) done ++ map (opened_of r.told) left
  pub said : text ++ flat_map (conn_text r) left ≡ flat_map (conn_text r) (keys_of r.hub.clients)
  pub written : Appends before after text

pub reported_begun : (limits : Limits) (r : Run) (hub : HubView) (opened : List Opened) (w : Option (List ℕ)) → HubMatches limits (accepted r.hub) hub r.hub
    → IsRising 0 (keys_of r.hub.clients) (2 ^ 32) → opened ≡ map (opened_of r.told) (keys_of r.hub.clients) → PartlyReported limits r hub opened 0 w w
reported_begun limits r hub opened w s up kept =
    let ks = keys_of r.hub.clients in
    record {
      now = r.hub;
      text = [];
      done = [];
      left = ks;
      all = refl;
      place = refl;
      apart = rising-distinct 0 ks (2 ^ 32) up;
      rising = up;
      matches = s;
      like = record { state = refl; events = refl; keys = refl };
      clients = λ n. (elim (test (list_any (nat_eq n) ks)) [
        | inl t ↦ rw t refl
        | inr f ↦ let none : client_at r.hub n ≡ None = no_value r.hub.clients n f in rw f (rw none refl)
      ]);
      kept = kept;
      said = refl;
      written = Appends-nil w;
    }

-- what is said of a connection depends on its client alone
same_text : (r : Run) (now : Clients) (n : ℕ) → client_at now n ≡ client_at r.hub n → conn_text (record { hub = now; told = r.told }) n ≡ conn_text r n
same_text r now n e = rw e refl

same_end : (h now : Clients) (n : ℕ) → client_at now n ≡ client_at h n → ended_at now n ≡ ended_at h n
same_end h now n e = rw e refl

same_untouched : (h now : Clients) (n : ℕ) → client_at now n ≡ client_at h n → IfSome (client_at h n) HasWholeFrames → IfSome (client_at now n) HasWholeFrames
same_untouched h now n e u = subst (λ (o : Option Client). IfSome o HasWholeFrames) (sym e) u

module _ (limits : Limits) (r : Run) (hub : HubView) (opened : List Opened) (index : ℕ) (w0 w1 : Option (List ℕ))
    (p : PartlyReported limits r hub opened index w0 w1) where
  -- how many are kept
  count : length opened ≡ index + length p.left
  count =
      ap length p.kept
      ∙ (length-append (map (opened_of (reported r).told) p.done) (map (opened_of r.told) p.left)
      ∙ (ap (λ (n : ℕ). n + length (map (opened_of r.told) p.left)) (length-map p.done (opened_of (reported r).told) ∙ p.place)
      ∙ ap (λ (n : ℕ). index + n) (length-map p.left (opened_of r.told))))

  abbrev now_run : Run
  now_run = record { hub = p.now; told = r.told }

  module _ (untouched : (conn : ℕ) → IfSome (client_at r.hub conn) HasWholeFrames) (item d : Opened) (inside : index < length opened)
      (is_item : item ≡ get_or opened index d) where
    -- there is one that is left
    no_rest : p.left ≡ [] → ⊥
    no_rest e = absurd (omega (arith, count, ap length e))

    -- the item is the first that is left
    module _ (n : ℕ) (rest : List ℕ) (e : p.left ≡ n ∷ rest) where
      abbrev told_of : ℕ → Opened
      told_of = opened_of (reported r).told

      places : opened ≡ map told_of p.done ++ opened_of r.told n ∷ map (opened_of r.told) rest
      places = p.kept ∙ ap (λ (l : List ℕ). map told_of p.done ++ map (opened_of r.told) l) e

      seam : length (map told_of p.done) ≡ index
      seam = length-map p.done told_of ∙ p.place

      item_is : item ≡ opened_of r.told n
      item_is =
          is_item ∙ (ap (λ (xs : List Opened). get_or xs index d) places
          ∙ (ap (λ (i : ℕ). get_or (map told_of p.done ++ opened_of r.told n ∷ map (opened_of r.told) rest) i d) (sym seam)
          ∙ get_or-append_seam (map told_of p.done) (opened_of r.told n) (map (opened_of r.told) rest) d))

      values : (m : ℕ) → client_at p.now m ≡ left_of r.hub (n ∷ rest) m
      values m = subst (λ (l : List ℕ). client_at p.now m ≡ left_of r.hub l m) e (p.clients m)

      here : client_at p.now n ≡ client_at r.hub n
      here = values n ∙ rw (same_number n) refl

      -- what is done with the item is done with its connection
      done_here : (C : Run → ℕ → Type 0)
          → ((s : Run) → HubMatches limits (accepted s.hub) hub s.hub → IfSome (client_at s.hub item.conn) HasWholeFrames → item ≡ opened_of s.told item.conn
          → C s item.conn) → C now_run n
      done_here C call =
          let conn_is : item.conn ≡ n = ap (λ (o : Opened). o.conn) item_is in
          let matches : HubMatches limits (accepted p.now) hub p.now = subst (λ (k : ℕ). HubMatches limits k hub p.now)
          (sym (ap length p.like.events)) p.matches in
          let whole : IfSome (client_at p.now item.conn) HasWholeFrames =
          subst (λ (k : ℕ). IfSome (client_at p.now k) HasWholeFrames) (sym conn_is) (same_untouched r.hub p.now n here (untouched n)) in
          subst (C now_run) conn_is (call now_run matches whole (item_is ∙ ap (opened_of r.told) (sym conn_is)))

    module _ (w2 : Option (List ℕ)) (call : (s : Run) → HubMatches limits (accepted s.hub) hub s.hub → IfSome (client_at s.hub item.conn) HasWholeFrames
        → item ≡ opened_of s.told item.conn
        → WritesPart w1 w2 (conn_text s item.conn)) where
      part_left : (left : List ℕ) → p.left ≡ left → WritesPart w0 w2 (report r).text
      part_left [] e = absurd (no_rest e)
      part_left (n ∷ rest) e =
          let said : p.text ++ (conn_text r n ++ flat_map (conn_text r) rest) ≡ (report r).text =
          ap (λ (l : List ℕ). p.text ++ flat_map (conn_text r) l) (sym e) ∙ p.said in
          let part : WritesPart w1 w2 (conn_text now_run n) = done_here n rest e (λ s k. WritesPart w1 w2 (conn_text s k)) call in
          subst (WritesPart w0 w2) said (part_after w0 w1 w2 p.text _ p.written
          (part_more w1 w2 (conn_text r n) _ (subst (WritesPart w1 w2) (same_text r p.now n (here n rest e)) part)))

      -- a beginning of what is said of one connection is written
      pub reported_part : WritesPart w0 w2 (report r).text
      reported_part = part_left p.left refl

    module _ (next : HubView) (w2 : Option (List ℕ)) (item' : Opened)
        (call : (s : Run) → HubMatches limits (accepted s.hub) hub s.hub → IfSome (client_at s.hub item.conn) HasWholeFrames → item ≡ opened_of s.told item.conn
        → SimulatesReportAt limits s next item.conn item' w1 w2) where
      one_reported : (left : List ℕ) → p.left ≡ left → PartlyReported limits r next (set opened index item') (index + 1) w0 w2
      one_reported [] e = absurd (no_rest e)
      one_reported (n ∷ rest) e =
          let told = opened_of (reported r).told in
          let kept = places n rest e in
          let place : length (map told p.done) ≡ index = seam n rest e in
          let apart : IsDistinct nat_eq (n ∷ rest) = subst (IsDistinct nat_eq) e p.apart in
          let self : nat_eq n n ≡ true = same_number n in
          let at : client_at p.now n ≡ client_at r.hub n = here n rest e in
          let now : Run = now_run in
          let one : SimulatesReportAt limits now next n item' w1 w2 = done_here n rest e (λ s k. SimulatesReportAt limits s next k item' w1 w2) call in
          let item_now : item' ≡ told n = one.kept ∙ ap (λ (b : Bool). record { conn = n; told = r.told n || b }) (same_end r.hub p.now n at) in
          let text : conn_text now n ≡ conn_text r n = same_text r p.now n at in
          let more = taken_like p.now n in
          record {
            now = without_frames p.now n;
            text = p.text ++ conn_text now n;
            done = p.done ++ n ∷ [];
            left = rest;
            all = append_assoc p.done (n ∷ []) rest ∙ (ap (λ (l : List ℕ). p.done ++ l) (sym e) ∙ p.all);
            place = length-append p.done (n ∷ []) ∙ ap (λ (k : ℕ). k + 1) p.place;
            apart = IsDistinct-tail nat_eq n rest apart;
            rising = p.rising;
            matches = subst (λ (k : ℕ). HubMatches limits k next (without_frames p.now n)) (ap length p.like.events) one.matches;
            like = record { state = more.state ∙ p.like.state; events = more.events ∙ p.like.events; keys = more.keys ∙ p.like.keys };
            clients = λ m. (elim (test (nat_eq m n)) [
              | inl t ↦
                  let same : m ≡ n = eqb-true m n t in
                  let gone : list_any (nat_eq n) rest ≡ false = distinct_tail n rest (IsDistinct-head nat_eq n rest apart) n self in
                  let taken : client_at (without_frames p.now n) n ≡ left_of r.hub rest n = taken_here p.now n ∙ (ap (option_map emptied) at ∙ rw gone refl) in
                  subst (λ (k : ℕ). client_at (without_frames p.now n) k ≡ left_of r.hub rest k) (sym same) taken
              | inr f ↦
                  let was : client_at p.now m ≡ left_of r.hub rest m = values n rest e m ∙ rw f refl in
                  taken_elsewhere p.now n m (flipped n m ∙ f) ∙ was
            ]);
            kept =
                ap (λ (xs : List Opened). set xs index item') kept
                ∙ (ap (λ (i : ℕ). set (map told p.done ++ opened_of r.told n ∷ map (opened_of r.told) rest) i item') (sym place)
                ∙ (set-append_seam (map told p.done) (opened_of r.told n) (map (opened_of r.told) rest) item'
                ∙ (ap (λ (o : Opened). map told p.done ++ o ∷ map (opened_of r.told) rest) item_now
                ∙ (sym (append_assoc (map told p.done) (told n ∷ []) (map (opened_of r.told) rest))
                ∙ ap (λ (xs : List Opened). xs ++ map (opened_of r.told) rest) (sym (map-append told p.done (n ∷ [])))))));
            said =
                append_assoc p.text (conn_text now n) (flat_map (conn_text r) rest)
                ∙ (ap (λ (l : List ℕ). p.text ++ (l ++ flat_map (conn_text r) rest)) text
                ∙ (ap (λ (l : List ℕ). p.text ++ flat_map (conn_text r) l) (sym e) ∙ p.said));
            written = Appends-trans w0 w1 w2 p.text (conn_text now n) p.written one.text;
          }

      -- one connection more
      pub reported_more : PartlyReported limits r next (set opened index item') (index + 1) w0 w2
      reported_more = one_reported p.left refl

  nothing_left : (left : List ℕ) → p.left ≡ left → length opened ≤ index → left ≡ []
  nothing_left [] e most = refl
  nothing_left (n ∷ rest) e most = absurd (omega (arith, count, ap length e))

  mapped_untouched : (o : Option Client) → IfSome (option_map emptied o) HasWholeFrames
  mapped_untouched None = tt
  mapped_untouched (Some c) = refl

  mapped_quiet : (o : Option Client) → IfSome (option_map emptied o) (λ c. c.frames ≡ [])
  mapped_quiet None = tt
  mapped_quiet (Some c) = refl

  -- all connections are reported
  pub reported_all : {D : Type 0} (store : StoreView D) → store.confirmed ≡ accepted r.hub → store.confirmed + store.waiting ≡ accepted r.hub
      → length opened ≤ index
      → RunMatchesBetween limits (record { hub = hub; store = store }) opened (reported r) × Appends w0 w1 (report r).text
  reported_all store all counts most =
      let none : p.left ≡ [] = nothing_left p.left refl most in
      let after = reported r in
      let values : (n : ℕ) → client_at p.now n ≡ client_at after.hub n = λ n.
      subst (λ (l : List ℕ). client_at p.now n ≡ left_of r.hub l n) none (p.clients n) ∙ sym (value_mapped emptied r.hub.clients n) in
      let keys : keys_of after.hub.clients ≡ keys_of r.hub.clients = keys_mapped emptied r.hub.clients in
      let table : p.now.clients ≡ after.hub.clients = same_table p.now.clients after.hub.clients (p.like.keys ∙ sym keys)
      (rising-distinct 0 (keys_of p.now.clients) (2 ^ 32) (rw p.like.keys p.rising)) values in
      let same : p.now ≡ after.hub =
      ap (λ (t : List (ℕ × Client)). record p.now { clients = t }) table
      ∙ (ap (λ (es : List PlainEvent). record { state = p.now.state; events = es; clients = after.hub.clients }) p.like.events
      ∙ ap (λ (s : State). record { state = s; events = r.hub.events; clients = after.hub.clients }) p.like.state) in
      let done : p.done ≡ keys_of r.hub.clients = sym (append-nil p.done) ∙ (ap (λ (l : List ℕ). p.done ++ l) (sym none) ∙ p.all) in
      let kept : opened ≡ map (opened_of after.told) (keys_of after.hub.clients) =
      p.kept ∙ (ap (λ (l : List ℕ). map (opened_of after.told) p.done ++ map (opened_of r.told) l) none
      ∙ (append-nil (map (opened_of after.told) p.done)
      ∙ (ap (map (opened_of after.told)) done ∙ ap (λ (ks : List ℕ). map (opened_of after.told) ks) (sym keys)))) in
      let text : p.text ≡ (report r).text =
      sym (append-nil p.text) ∙ (ap (λ (l : List ℕ). p.text ++ flat_map (conn_text r) l) (sym none) ∙ p.said) in (
        record {
          run = record {
            matches = record {
              hub = subst (λ (n : ℕ). HubMatches limits n hub after.hub) (sym all) (subst (HubMatches limits (accepted r.hub) hub) same p.matches);
              counts = counts;
            };
            kept = kept;
            whole =
                λ n. subst (λ (o : Option Client). IfSome o HasWholeFrames) (sym (value_mapped emptied r.hub.clients n)) (mapped_untouched (client_at r.hub n));
            rising = rw keys p.rising;
          };
          quiet = λ n. subst (λ (o : Option Client). IfSome o (λ c. c.frames ≡ [])) (sym (value_mapped emptied r.hub.clients n))
              (mapped_quiet (client_at r.hub n));
        },
        subst (Appends w0 w1) text p.written,
      )
