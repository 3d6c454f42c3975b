-- The pieces of a line, fed one after the other.
use Rattle.std.proofs.Common.{◌≡◌, ℕ, ◌+◌, ◌-◌, ◌<◌, zero, suc, Bool, true, false, List, [], ◌∷◌, ◌++◌, length, take, drop, Option, Some, None, refl}
use Rattle.std.proofs.Common.{sym, ap, ◌∙◌, subst, arith, append_assoc, append-nil, inl, inr}
use Rattle.std.specs.Prelude.{is_some, option_map, nat_lt, Ok, Err}
use Rattle.std.specs.Io.KnownBytes.{Appends}
use Rattle.std.proofs.KnownBytes.{Appends-nil, Appends-trans}
use Rattle.std.proofs.Math.Seq.{take-append_seam, drop-append_seam}
use Rattle.std.proofs.lemmas.Bool.Decides.{nat_tests}
use Rattle.std.proofs.lemmas.List.{take_rest, length-append, length-drop, take-append-drop}
use Rattle.ipc_limits.specs.declared.limits.Limits.{Limits}
use Rattle.ipc_disk.specs.Counts.{Counts}
use Rattle.ipc_disk.specs.Medium.{Image, Medium}
use Rattle.ipc_store.specs.declared.fault.CommitError.{CommitError}
use Rattle.ipc_store.specs.Histories.{Takes}
use Rattle.ipc_store.specs.View.{StoreView}
use Rattle.ipc_store.proofs.CallerLemmas.{Takes-none}
use Rattle.ipc_hub.specs.Clients.{Client, client_at, feed}
use Rattle.ipc_hub.specs.View.{StoredHub, is_connected, HasFewFrames}
use Rattle.ipc_hub.specs.Relations.Faults.{HaltsFeed}
use Rattle.ipc_hub.specs.Relations.Matches.{Comes, ServesFeed}
use Rattle.ipc_script.specs.declared.report.Opened.{Opened}
use Rattle.ipc_script.specs.declared.script.Sender.{Sender}
use Rattle.ipc_script.specs.declared.fault.ScriptFault.{ScriptFault}
use Rattle.ipc_script.specs.declared.fault.ScriptFault.TheVariants.{Unknown}
use Rattle.ipc_script.specs.Line.{PlainLine}
use Rattle.ipc_script.specs.Line.PlainLine.{Data}
use Rattle.ipc_script.specs.Script.{Run, Progress, Piece, Cut, followed, is_open, fed, fed_in_pieces, report, reported, emptied, line_done, WritesPart}
use Rattle.ipc_script.specs.Script.{WritesMore}
use Rattle.ipc_script.specs.Halting.{IsBegun, IsDone}
use Rattle.ipc_script.specs.Halting.IsBegun.{None as none_begun, Feeds as bytes_begun}
use Rattle.ipc_script.specs.Halting.IsDone.{None as none_done, Fed as bytes_fed}
use Rattle.ipc_script.specs.Relations.Faults.{ByFault, IfRefused}
use Rattle.ipc_script.specs.Relations.Lasts.{LastsAs, FailsWithin}
use Rattle.ipc_script.specs.Relations.Matches.{HaltsAt, MatchesFailed, RunMatches, RunMatchesBetween, ProgressMatches}
use Rattle.ipc_script.specs.Relations.Pieces.{SimulatesPiece, PieceBreaksOff, PieceFails, PieceHalts, TakesPiece, piece_fed}
use Rattle.ipc_script.specs.Relations.Simulation.{LineStops, SimulatesLine, text_of}
use Rattle.ipc_base.proofs.CallerLemmas.{test_cases as test, at-map as value_mapped}
use Rattle.ipc_script.proofs.FaultCases.{by_fault_both}
use Rattle.ipc_script.proofs.Lasting.{lasts-as-both, lasts-as-none, lasts-as-more, fails-more, takes-halted}
use Rattle.ipc_script.proofs.Halting.{fails-by, halts-fails, matches-failed}
use Rattle.ipc_script.specs.Relations.Numbers.{HasNumbers}
use Rattle.ipc_script.proofs.WrittenText.{part_after, part_more}
use Rattle.ipc_script.proofs.HubAndClients.{connected, few_frames, no_frame}
use Rattle.ipc_script.proofs.UnchangedHeads.{heads, heads_feed, steady, same_open}

-- after a text, what comes
abbrev pub beyond : List ℕ → Progress → Progress
beyond text p = record { text = text ++ p.text; run = p.run }

-- some pieces are fed, and some bytes are left
pub record PartlyFed {D : Type 0} (medium : D → Medium) (limits : Limits) (r : Run) (sender : Sender) (bytes : List ℕ)
    (old hub : StoredHub D) (opened : List Opened) (rest : List ℕ) (before after : Option (List ℕ)) : Type 0 where
  pub now : Run
  pub pieces : List Piece
  pub first : List ℕ
  pub all : first ++ rest ≡ bytes
  pub text : List ℕ
  pub at : RunMatchesBetween limits hub opened now
  pub there : is_open now sender.conn ≡ is_open r sender.conn
  pub shut : is_open r sender.conn ≡ false → (text ≡ []) × (hub ≡ old)
  pub written : Appends before after text
  pub runs : (others : List ℕ) (more : Cut) → 0 < length others
      → fed_in_pieces limits r sender.moment.0 sender.conn (first ++ others) (pieces ++ more)
      ≡ beyond text (fed_in_pieces limits now sender.moment.0 sender.conn others more)
  pub lasts : LastsAs medium r.hub now.hub old.store hub.store
  pub fails : FailsWithin medium limits sender.number r (Data sender.moment.0 sender.conn bytes) old.store hub.store
  pub done : IsDone limits r (Data sender.moment.0 sender.conn bytes) (length first) (record { text = text; run = now })

-- the first piece of a cut, which leaves some bytes, and the last
module _ (limits : Limits) (r : Run) (moment conn : ℕ) (some : List ℕ) (refused : List Bool) where
  first_piece : (others : List ℕ) → 0 < length some → 0 < length others → (cut : Cut)
      → fed_in_pieces limits r moment conn (some ++ others) (record { more = length some - 1; refused = refused } ∷ cut)
      ≡ followed (fed limits r moment conn some refused) (λ now. fed_in_pieces limits now moment conn others cut)
  first_piece others has left cut =
      let took : length some - 1 + 1 ≡ length some = omega (arith, has) in
      let inside : nat_lt (length some) (length (some ++ others)) ≡ true = grind (arith, nat_tests, length-append some others, left) in
      rw took (rw inside (rw (take-append_seam some others) (rw (drop-append_seam some others) refl)))

  last_piece : fed_in_pieces limits r moment conn some (record { more = length some; refused = refused } ∷ []) ≡ fed limits r moment conn some refused
  last_piece =
      let past : nat_lt (length some + 1) (length some) ≡ false = grind (arith, nat_tests) in
      rw past refl

no_length : (xs : List ℕ) → length xs ≡ 0 → xs ≡ []
no_length [] e = refl
no_length (x ∷ xs) e = absurd (omega arith)

some_front : (n : ℕ) (xs : List ℕ) → 0 < n → 0 < length xs → 0 < length (take n xs)
some_front zero xs has some = absurd (omega (arith, has))
some_front (suc n) [] has some = absurd (omega (arith, some))
some_front (suc n) (x ∷ xs) has some = omega arith

module _ {D : Type 0} (medium : D → Medium) (limits : Limits) (r : Run) (sender : Sender) (bytes : List ℕ) (old : StoredHub D) where
  abbrev line : PlainLine
  line = Data sender.moment.0 sender.conn bytes

  abbrev fed_so : List ℕ → Cut → Progress
  fed_so bs cut = fed_in_pieces limits r sender.moment.0 sender.conn bs cut

  pub fed_begun : ((d : D) (image : Image) → (medium d).images_since (medium d).moment image → (medium d).images_now image)
      → (opened : List Opened) (w : Option (List ℕ)) → RunMatchesBetween limits old opened r
      → PartlyFed medium limits r sender bytes old old opened bytes w w
  fed_begun law opened w b =
      let none : Takes medium old.store [] old.store = Takes-none medium law old.store in
      record {
        now = r;
        pieces = [];
        first = [];
        all = refl;
        text = [];
        at = b;
        there = refl;
        shut = λ _. (refl, refl);
        written = Appends-nil w;
        runs = λ others more some. refl;
        lasts = lasts-as-none medium r.hub r.hub old.store old.store refl none;
        fails = inl none;
        done = none_done line;
      }

  module _ (hub : StoredHub D) (opened : List Opened) (rest : List ℕ) (w0 w1 : Option (List ℕ))
      (p : PartlyFed medium limits r sender bytes old hub opened rest w0 w1) (some : 0 < length rest) where
    -- the next piece, after which the first bytes of the line are fed
    module _ (taken : ℕ) (new : StoreView D) (q : TakesPiece medium limits p.now sender rest taken hub.store new) where
      abbrev front : List ℕ
      front = take taken rest

      abbrev step : Progress
      step = piece_fed limits p.now sender rest taken q.refused

      abbrev piece : Piece
      piece = record { more = length front - 1; refused = q.refused }

      abbrev last : Piece
      last = record { more = length front; refused = q.refused }

      open_all : is_open r sender.conn ≡ true
      open_all = sym p.there ∙ q.open_before

      takes_some : 0 < length front
      takes_some = some_front taken rest (q.takes_some some) some

      whole : (p.first ++ front) ++ drop taken rest ≡ bytes
      whole = append_assoc p.first front (drop taken rest) ∙ ap (λ (bs : List ℕ). p.first ++ bs) (take-append-drop taken rest) ∙ p.all

      runs_on : (others : List ℕ) (more : Cut) → 0 < length others → fed_so ((p.first ++ front) ++ others) ((p.pieces ++ piece ∷ []) ++ more)
          ≡ beyond (p.text ++ step.text) (fed_in_pieces limits step.run sender.moment.0 sender.conn others more)
      runs_on others more left =
          let then : Progress = fed_in_pieces limits step.run sender.moment.0 sender.conn others more in
          ap (λ (bs : List ℕ). fed_so bs ((p.pieces ++ piece ∷ []) ++ more)) (append_assoc p.first front others)
          ∙ (ap (fed_so (p.first ++ (front ++ others))) (append_assoc p.pieces (piece ∷ []) more)
          ∙ (p.runs (front ++ others) (piece ∷ more) (omega (arith, length-append front others, left))
          ∙ (ap (beyond p.text) (first_piece limits p.now sender.moment.0 sender.conn front q.refused others takes_some left more)
          ∙ ap (λ (t : List ℕ). record { text = t; run = then.run }) (sym (append_assoc p.text step.text then.text)))))

      runs_to : fed_so (p.first ++ front) (p.pieces ++ last ∷ []) ≡ beyond p.text step
      runs_to =
          p.runs front (last ∷ []) takes_some ∙ ap (beyond p.text) (last_piece limits p.now sender.moment.0 sender.conn front q.refused)

      lasts_now : LastsAs medium r.hub step.run.hub old.store new
      lasts_now = lasts-as-both medium r.hub p.now.hub step.run.hub old.store hub.store new p.lasts q.lasts

      -- the first bytes of the line are fed, the last of them in this piece
      fed_to : fed_so (take (length (p.first ++ front)) bytes) (p.pieces ++ last ∷ []) ≡ beyond p.text step
      fed_to =
          ap (λ (bs : List ℕ). fed_so bs (p.pieces ++ last ∷ [])) (ap (take (length (p.first ++ front))) (sym whole)
          ∙ take-append_seam (p.first ++ front) (drop taken rest)) ∙ runs_to

      done_so : IsDone limits r line (length (p.first ++ front)) (beyond p.text step)
      done_so =
          subst (IsDone limits r line (length (p.first ++ front))) fed_to
          (bytes_fed sender.moment.0 sender.conn (length (p.first ++ front)) bytes (p.pieces ++ last ∷ []))

      pub fails_fed : FailsWithin medium limits sender.number r line old.store new
      fails_fed =
          inr (record {
            goes = λ stop. cc;
            count = length (p.first ++ front);
            cut = p.pieces ++ last ∷ [];
            part = beyond p.text step;
            done = rw open_all (ap (λ (x : Progress). Ok x) fed_to);
            lasts = lasts_now;
          })

      -- what these bytes let out begins what the line lets out
      said : (w2 : Option (List ℕ)) (cut : Cut) (bs : List ℕ) (x : Progress) → bs ≡ bytes → fed_so bs cut ≡ x → WritesPart w0 w2 x.text → (cut : Cut)
          × WritesPart w0 w2 (text_of (line_done limits sender.number r line cut))
      said w2 cut bs x same is part = (
        cut,
        rw open_all (subst (λ (y : Progress). WritesPart w0 w2 y.text) (sym (ap (λ (bs : List ℕ). fed_so bs cut) (sym same) ∙ is)) part),
      )

      pub fed_part : (w2 : Option (List ℕ)) → WritesPart w1 w2 step.text → (cut : Cut)
          × WritesPart w0 w2 (text_of (line_done limits sender.number r line cut))
      fed_part w2 part =
          let wrote : WritesPart w0 w2 (p.text ++ step.text) = part_after w0 w1 w2 p.text step.text p.written part in
          elim (test (nat_lt 0 (length (drop taken rest)))) [
            | inl t ↦
                let left : 0 < length (drop taken rest) = grind (arith, nat_tests) in
                said w2 ((p.pieces ++ piece ∷ []) ++ []) ((p.first ++ front) ++ drop taken rest) _ whole (runs_on (drop taken rest) [] left)
                (part_more w0 w2 (p.text ++ step.text) _ wrote)
            | inr f ↦
                let none : drop taken rest ≡ [] = no_length (drop taken rest) (grind (arith, nat_tests)) in
                said w2 (p.pieces ++ last ∷ []) (p.first ++ front) _
                (sym (append-nil (p.first ++ front)) ∙ ap (λ (bs : List ℕ). (p.first ++ front) ++ bs) (sym none) ∙ whole) runs_to wrote
          ]

    module _ (taken : ℕ) (next : StoredHub D) (changed : List Opened) (w2 : Option (List ℕ))
        (s : SimulatesPiece medium limits p.now sender rest taken hub.store next changed w1 w2) where
      abbrev now : Progress
      now = step taken next.store s.piece

      -- one piece more
      pub fed_more : PartlyFed medium limits r sender bytes old next changed (take (length rest - taken) (drop taken rest)) w0 w2
      fed_more =
          let open_before = open_all taken next.store s.piece in
          record {
            now = now.run;
            pieces = p.pieces ++ piece taken next.store s.piece ∷ [];
            first = p.first ++ take taken rest;
            all = ap (λ (bs : List ℕ). (p.first ++ take taken rest) ++ bs) (take_rest rest taken) ∙ whole taken next.store s.piece;
            text = p.text ++ now.text;
            at = s.matches.0;
            there = s.open_after ∙ sym open_before;
            shut = λ f. (let bad : true ≡ false = sym open_before ∙ f in cc);
            written = Appends-trans w0 w1 w2 p.text now.text p.written s.matches.1;
            runs = runs_on taken next.store s.piece;
            lasts = lasts_now taken next.store s.piece;
            fails = fails_fed taken next.store s.piece;
            done = done_so taken next.store s.piece;
          }

      -- the last piece
      pub fed_all : take taken rest ≡ rest → SimulatesLine medium limits sender.number r line old next changed w0 w2 (Ok tt)
      fed_all last_one =
          let cut : Cut = p.pieces ++ last taken next.store s.piece ∷ [] in
          let all : p.first ++ take taken rest ≡ bytes = ap (λ (bs : List ℕ). p.first ++ bs) last_one ∙ p.all in (
            cut,
            beyond p.text now,
            rw (open_all taken next.store s.piece) (ap (λ (x : Progress). Ok x) (ap (λ (bs : List ℕ). fed_so bs cut) (sym all)
                ∙ runs_to taken next.store s.piece)),
            (s.matches.0, Appends-trans w0 w1 w2 p.text now.text p.written s.matches.1),
            lasts_now taken next.store s.piece,
            λ stop. cc,
          )

-- ---- one piece

some_emptied : (o : Option Client) → is_some (option_map emptied o) ≡ is_some o
some_emptied None = refl
some_emptied (Some c) = refl

-- a report leaves a connection open
pub open_reported : (r : Run) (conn : ℕ) → is_open (reported r) conn ≡ is_open r conn
open_reported r conn = ap is_some (value_mapped emptied r.hub.clients conn) ∙ some_emptied (client_at r.hub conn)

-- a hub that knows a number stands for one in which it is open
pub open_here : {D : Type 0} (limits : Limits) (hub : StoredHub D) (opened : List Opened) (r : Run) (conn : ℕ) → RunMatches limits hub opened r
    → (is_connected hub.hub conn ≡ false → ⊥)
    → is_open r conn ≡ true
open_here limits hub opened r conn i known =
    let same = connected limits hub.store.confirmed hub.hub r.hub conn i.matches.hub in
    elim (test (is_open r conn)) [ inl t ↦ t | inr f ↦ absurd (known (same ∙ f)) ]

module _ {D : Type 0} (medium : D → Medium) (limits : Limits) (r : Run) (sender : Sender) (bytes : List ℕ) (taken : ℕ) (hub mid next : StoredHub D)
    (opened : List Opened) (b : RunMatchesBetween limits hub opened r) (takes : ServesFeed medium hub mid sender.conn (take taken bytes) sender.moment.0)
    (starts : HasFewFrames hub.hub sender.conn → 0 < length bytes → 0 < taken)
    (known : is_connected hub.hub sender.conn ≡ false → ⊥) (settled : Takes medium mid.store [] next.store) where
  pub taken_in : (refused : List Bool) × Comes medium limits hub mid r.hub (feed limits r.hub sender.conn (take taken bytes) sender.moment.0 refused)
  taken_in = takes limits r.hub b.run.matches

  abbrev fed_run : Run
  fed_run = record r { hub = feed limits r.hub sender.conn (take taken bytes) sender.moment.0 taken_in.0 }

  like : heads fed_run.hub.clients ≡ heads r.hub.clients
  like = heads_feed limits sender.conn sender.moment.0 r.hub (take taken bytes) taken_in.0

  in_line : RunMatches limits mid opened fed_run
  in_line = steady limits hub mid opened r fed_run.hub b.run like taken_in.1.matches

  pub was_open : is_open r sender.conn ≡ true
  was_open = open_here limits hub opened r sender.conn b.run known

  abbrev pub piece_taken : TakesPiece medium limits r sender bytes taken hub.store next.store
  piece_taken =
      let come = taken_in.1 in
      record {
        refused = taken_in.0;
        takes_some = starts (few_frames hub.hub sender.conn
            (no_frame limits hub.store.confirmed hub.hub r.hub sender.conn b.run.matches.hub (b.run.whole sender.conn) (b.quiet sender.conn)));
        open_before = was_open;
        lasts = lasts-as-more medium r.hub (reported fed_run).hub hub.store mid.store next.store
            (record { events = come.events; adds = come.adds; takes = come.takes }) settled;
      }

  pub feeds_some : (changed : List Opened) (w0 w2 : Option (List ℕ))
      → ((limits : Limits) (r : Run) → RunMatches limits mid opened r → ProgressMatches limits next changed w0 w2 (report r))
      → SimulatesPiece medium limits r sender bytes taken hub.store next changed w0 w2
  feeds_some changed w0 w2 reports =
      record {
        piece = piece_taken;
        matches = reports limits fed_run in_line;
        open_after = open_reported fed_run sender.conn ∙ (same_open r.hub.clients fed_run.hub.clients like sender.conn ∙ was_open);
      }

  -- what these bytes let out is not written
  pub feeds_halt : (changed : List Opened) → ((limits : Limits) (r : Run) → RunMatches limits mid opened r → MatchesFailed limits next changed r)
      → PieceHalts limits r sender bytes next changed
  feeds_halt changed failed = (fed_run, bytes_begun sender.moment.0 sender.conn bytes taken taken_in.0, failed limits fed_run in_line)

  pub feeds_part : (w0 w2 : Option (List ℕ)) → ((limits : Limits) (r : Run) → RunMatches limits mid opened r → WritesPart w0 w2 (report r).text)
      → PieceBreaksOff medium limits r sender bytes hub.store next.store w0 w2
  feeds_part w0 w2 part = record { taken = taken; piece = piece_taken; text = part limits fed_run in_line }

-- a feed was refused before it did anything else, or failed when some of the bytes were taken
module _ {D : Type 0} (medium : D → Medium)
    (law : (d : D) (image : Image) → (medium d).images_since (medium d).moment image → (medium d).images_now image) (counts : D → Counts)
    (limits : Limits) (r : Run) (sender : Sender) (bytes : List ℕ) (hub next : StoredHub D) (opened : List Opened)
    (b : RunMatchesBetween limits hub opened r) where
  abbrev Halted : CommitError → Type 0
  Halted = HaltsFeed medium counts hub next sender.conn bytes sender.moment.0

  known-here : is_connected hub.hub sender.conn ≡ true → is_connected hub.hub sender.conn ≡ false → ⊥
  known-here there none = let never : true ≡ false = sym there ∙ none in cc

  pub halted_piece : (e : CommitError) → Halted e → PieceFails medium limits r sender bytes hub.store next.store
  halted_piece e (inl halts) = inl (takes-halted medium law counts hub next e halts)
  halted_piece e (inr w) =
      let failed = fails-by medium counts w.fed next e w.fails in
      inr (w.taken, piece_taken medium limits r sender bytes w.taken hub w.fed next opened b w.feeds (λ _ _. w.some) (known-here w.there) failed.takes)

  pub halted_now : (n : ℕ) → HasNumbers n hub.store → (e : CommitError) → Halted e → PieceHalts limits r sender bytes next opened
  halted_now n has e (inl halts) = (
    r,
    none_begun _,
    matches-failed medium limits hub next opened r (halts-fails medium counts n hub next has e halts) b.run,
  )
  halted_now n has e (inr w) =
      let failed = fails-by medium counts w.fed next e w.fails in
      feeds_halt medium limits r sender bytes w.taken hub w.fed next opened b w.feeds (λ _ _. w.some) (known-here w.there) failed.takes opened
      (λ limits r m. matches-failed medium limits w.fed next opened r failed m)

-- ---- what is left, and what is refused

pub rest_length : (rest : List ℕ) (n : ℕ) → length (take (length rest - n) (drop n rest)) ≡ length rest - n
rest_length rest n = ap length (take_rest rest n) ∙ length-drop n rest

pub all_taken : (rest : List ℕ) (n : ℕ) → length (take (length rest - n) (drop n rest)) ≡ 0 → take n rest ≡ rest
all_taken rest n e =
    let none : drop n rest ≡ [] = no_length (drop n rest) (ap length (sym (take_rest rest n)) ∙ e) in
    sym (append-nil (take n rest)) ∙ (ap (λ (xs : List ℕ). take n rest ++ xs) (sym none) ∙ take-append-drop n rest)

module _ {D : Type 0} (medium : D → Medium) (limits : Limits) (r : Run) (sender : Sender) (bytes : List ℕ) (old new hub : StoredHub D)
    (opened : List Opened) (rest : List ℕ) (w0 w1 w2 : Option (List ℕ))
    (p : PartlyFed medium limits r sender bytes old hub opened rest w0 w1) (some : 0 < length rest) where
  abbrev the_line : PlainLine
  the_line = Data sender.moment.0 sender.conn bytes

  abbrev Fails : Type 0
  Fails = FailsWithin medium limits sender.number r the_line old.store new.store

  piece_fails : PieceFails medium limits p.now sender rest hub.store new.store → Fails
  piece_fails (inl none) = fails-more medium limits sender.number r the_line old.store hub.store new.store p.fails none
  piece_fails (inr q) = fails_fed medium limits r sender bytes old hub opened rest w0 w1 p some q.0 new.store q.1

  pub fed_refused : (e : ScriptFault)
      → ByFault e ((limits : Limits) (r : Run) → RunMatchesBetween limits hub opened r → PieceBreaksOff medium limits r sender rest hub.store new.store w1 w2)
      (((limits : Limits) (r : Run) → RunMatchesBetween limits hub opened r → PieceFails medium limits r sender rest hub.store new.store) × Appends w1 w2 [])
      ((e ≡ Unknown sender.number) × Appends w1 w2 [] × (new ≡ hub))
      → IfRefused e ((limits : Limits) (r : Run) → RunMatchesBetween limits hub opened r → is_open r sender.conn ≡ false)
      → LineStops medium limits sender.number r the_line old new w0 w2 e
  fed_refused e err unknown =
      by_fault_both
      ((limits : Limits) (r : Run) → RunMatchesBetween limits hub opened r → PieceBreaksOff medium limits r sender rest hub.store new.store w1 w2)
      (Fails × ((cut : Cut) × WritesPart w0 w2 (text_of (line_done limits sender.number r the_line cut))))
      (((limits : Limits) (r : Run) → RunMatchesBetween limits hub opened r → PieceFails medium limits r sender rest hub.store new.store) × Appends w1 w2 [])
      (Fails × WritesMore w0 w2 [])
      ((e ≡ Unknown sender.number) × Appends w1 w2 [] × (new ≡ hub))
      ((limits : Limits) (r : Run) → RunMatchesBetween limits hub opened r → is_open r sender.conn ≡ false)
      (((cut : Cut) → line_done limits sender.number r the_line cut ≡ Err e) × Appends w0 w2 [] × (new ≡ old)) e
      (λ part.
      let q = part limits p.now p.at in (
        fails_fed medium limits r sender bytes old hub opened rest w0 w1 p some q.taken new.store q.piece,
        fed_part medium limits r sender bytes old hub opened rest w0 w1 p some q.taken new.store q.piece w2 q.text,
      )) (λ x. (piece_fails (x.0 limits p.now p.at), (p.text ++ [], Appends-trans w0 w1 w2 p.text [] p.written x.1))) (λ a u.
      let shut : is_open r sender.conn ≡ false = sym p.there ∙ u limits p.now p.at in
      let none = p.shut shut in (
        λ cut. rw shut (ap (λ (f : ScriptFault). Err f) (sym a.0)),
        Appends-trans w0 w1 w2 [] [] (subst (Appends w0 w1) none.0 p.written) a.1,
        a.2 ∙ none.1,
      )) err unknown

-- the disk failed in a piece: of the bytes that are left none is fed, or some are
module _ {D : Type 0} (medium : D → Medium) (limits : Limits) (r : Run) (sender : Sender) (bytes : List ℕ) (old new hub : StoredHub D)
    (opened changed : List Opened) (rest : List ℕ) (w0 w1 w2 : Option (List ℕ))
    (p : PartlyFed medium limits r sender bytes old hub opened rest w0 w1) where
  begun_on : (now : Run) → IsBegun limits p.now 0 (Data sender.moment.0 sender.conn rest) now
      → IsBegun limits p.now (length p.first) (Data sender.moment.0 sender.conn bytes) now
  begun_on _ (none_begun _) = none_begun (Data sender.moment.0 sender.conn bytes)
  begun_on _ (bytes_begun _ _ _ count refused) =
      let left : drop (length p.first) bytes ≡ rest = ap (drop (length p.first)) (sym p.all) ∙ drop-append_seam p.first rest in
      subst (λ (bs : List ℕ). IsBegun limits p.now (length p.first) (Data sender.moment.0 sender.conn bytes)
      (record p.now { hub = feed limits p.now.hub sender.conn (take count bs) sender.moment.0 refused })) left
      (bytes_begun sender.moment.0 sender.conn bytes count refused)

  pub fed_halted : PieceHalts limits p.now sender rest new changed → Appends w1 w2 []
      → HaltsAt limits r (Data sender.moment.0 sender.conn bytes) new changed w0 w2
  fed_halted halts none = record {
    place = length p.first;
    part = record { text = p.text; run = p.now };
    done = p.done;
    now = halts.0;
    begun = begun_on halts.0 halts.1;
    failed = halts.2;
    written = subst (Appends w0 w2) (append-nil p.text) (Appends-trans w0 w1 w2 p.text [] p.written none);
  }
