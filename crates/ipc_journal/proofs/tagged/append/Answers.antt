-- Each exit: the images since the start. After the sync there is one.
use Rattle.std.proofs.Common.{◌≡◌, inl, inr, refl, ℕ, ◌+◌, ◌<◌, ◌≤◌, List, [], ◌∷◌, ◌++◌, length, sym, ◌∙◌, subst, arith}
use Rattle.ipc_disk.specs.Medium.{Image, Medium}
use Rattle.ipc_disk.specs.Since.{EachImageSince}
use Rattle.ipc_disk.specs.Range.{IsOutside}
use Rattle.ipc_disk.specs.Standing.{sector_at}
use Rattle.ipc_disk.proofs.CallerLemmas.{EachImageSince-sync, EachImageSince-weaken, sector_at-same}
use Rattle.ipc_journal.specs.declared.form.Form.TheVariants.{Tagged}
use Rattle.ipc_journal.specs.Journal.{sectors_of, Holds, IsClear}
use Rattle.ipc_journal.specs.Matches.{HoldsOneMoreOrNot, IsKept, KeepsSectors}
use Rattle.ipc_journal.specs.Meanwhile.{ComesInParts, HoldsAlone}
use Rattle.ipc_journal.specs.Tagged.{pieces_for, IsMixed, IsTaggedAt}
use Rattle.ipc_journal.proofs.CallerLemmas.{sectors_of-push, tagged-epoch}
use Rattle.ipc_journal.proofs.Mixed.{one_more_or_not, keeps, part-of, with_it, IsClear-after}
use Rattle.ipc_journal.proofs.TagPieces.{put-mixed, put-tagged, put-written}
use Rattle.ipc_journal.proofs.tagged.append.Given.{Over}
use Rattle.ipc_journal.proofs.tagged.append.Goals as goal
use Rattle.ipc_journal.proofs.tagged.append.Goals.{After-write_tagged}

module _ (g : Over) (c : After-write_tagged g) (batches : List (List ℕ)) (used : c.args.used ≡ sectors_of Tagged batches)
    (count : c.args.before ≡ length batches)
    (at : IsKept Tagged c.args.range c.args.epoch batches (g.D.SectorDisk.medium c.args.disk.now)) where
  abbrev old : Medium
  old = g.D.SectorDisk.medium c.args.disk.now

  abbrev mid : Medium
  mid = g.D.SectorDisk.medium c.write_tagged.new.disk

  -- some of the sectors are written
  abbrev Some : Image → Type 0
  Some image = (before : Image) × old.images_now before
      × IsMixed (c.args.range.first + c.args.used) c.args.epoch (c.args.before + 1) c.args.batch.now before image

  placed : (before image : Image) → IsMixed (c.args.range.first + c.args.used) c.args.epoch (c.args.before + 1) c.args.batch.now before image
      → IsMixed (c.args.range.first + sectors_of Tagged batches) c.args.epoch (length batches + 1) c.args.batch.now before image
  placed before image mixed =
      subst (λ (n : ℕ). IsMixed (c.args.range.first + n) c.args.epoch (length batches + 1) c.args.batch.now before image) used
      (subst (λ (n : ℕ). IsMixed (c.args.range.first + c.args.used) c.args.epoch (n + 1) c.args.batch.now before image) count mixed)

  abbrev count_of : ℕ
  count_of = pieces_for (length c.args.batch.now)

  abbrev place : ℕ
  place = c.args.range.first + sectors_of Tagged batches

  -- what is read, with the batch
  abbrev whole : Image
  whole = put-tagged count_of place c.args.epoch (length batches + 1) c.args.batch.now old.contents

  room : place + count_of ≤ length old.contents
  room = omega (arith, (g.met.D.SectorDisk.shaped c.args.disk.now old.contents at.honest.reads).count, c.requires.within, c.requires.fits, used)

  mixed-whole : IsMixed place c.args.epoch (length batches + 1) c.args.batch.now old.contents whole
  mixed-whole = put-mixed place c.args.epoch (length batches + 1) c.args.batch.now old.contents room count_of (omega arith)

  written-whole : IsTaggedAt place c.args.epoch (length batches + 1) c.args.batch.now whole
  written-whole = put-written place c.args.epoch (length batches + 1) c.args.batch.now old.contents room count_of (omega arith)

  alone-whole : HoldsAlone c.args.range c.args.epoch (batches ++ c.args.batch.now ∷ []) whole
  alone-whole = record {
    holds = with_it c.args.range c.args.epoch batches c.args.batch.now old.contents whole c.requires.batch (omega arith) (omega arith) (omega arith)
        (omega arith) (at.images old.contents at.honest.reads) (at.clear old.contents at.honest.reads) mixed-whole written-whole;
    clear = subst (λ (n : ℕ). IsClear Tagged c.args.range c.args.epoch n whole) (sym (sectors_of-push Tagged batches c.args.batch.now))
        (IsClear-after c.args.range c.args.epoch batches c.args.batch.now old.contents whole c.requires.batch (omega arith) (omega arith) (omega arith)
        (omega arith) (at.images old.contents at.honest.reads) (at.clear old.contents at.honest.reads) mixed-whole);
  }

  -- the sectors of before are in it
  before-whole : (image : Image) → old.images_now image → (i : ℕ) → i < sectors_of Tagged batches
      → sector_at image (c.args.range.first + i) ≡ sector_at whole (c.args.range.first + i)
  before-whole image now i lt =
      sym (at.alike image old.contents now at.honest.reads i (omega (arith, lt, used, c.requires.fits))
      (tagged-epoch c.args.range c.args.epoch 0 0 batches image (at.images image now).stand i (omega arith) (omega (arith, lt))))
      ∙ sector_at-same (IsOutside (record { first = place; count = count_of })) old.contents whole (c.args.range.first + i) mixed-whole.outside
      (inl (omega (arith, lt)))

  -- so each image since has the batch or not, keeps what was there, and is a part of what comes
  comes : (new : Medium) → EachImageSince old new Some
      → EachImageSince old new (HoldsOneMoreOrNot Tagged c.args.range c.args.epoch batches c.args.batch.now)
      × ((earlier : Image) → old.images_now earlier → EachImageSince old new (KeepsSectors Tagged c.args.range c.args.epoch earlier))
      × ComesInParts c.args.range c.args.epoch batches c.args.batch.now old new
  comes new run = (
    EachImageSince-weaken old new Some _ run (λ image from.
        one_more_or_not c.args.range c.args.epoch batches c.args.batch.now from.0 image c.requires.batch (omega arith) (omega arith) (omega arith)
        (omega arith) (at.images from.0 from.1) (at.clear from.0 from.1) (placed from.0 image from.2)),
    λ earlier now. EachImageSince-weaken old new Some _ run (λ image from.
        keeps c.args.range c.args.epoch batches c.args.batch.now from.0 image c.requires.batch (omega arith) (omega arith) (omega arith)
        (omega arith) (at.images from.0 from.1) (at.clear from.0 from.1) (placed from.0 image from.2)
        earlier (at.clear earlier now) (at.alike earlier from.0 now from.1)),
    record {
      whole = whole;
      holds = inr alone-whole;
      each = EachImageSince-weaken old new Some _ run (λ image from.
          part-of c.args.range c.args.epoch batches c.args.batch.now from.0 image c.requires.batch (omega arith) (omega arith) (omega arith)
          (omega arith) (at.images from.0 from.1) (at.clear from.0 from.1) (placed from.0 image from.2) whole written-whole
          (before-whole from.0 from.1));
    },
  )

  run : EachImageSince old mid Some
  run = c.write_tagged.ensures.any_moment at.honest

pub returns-in_err-write_tagged-clause-any_moment : goal.returns-in_err-write_tagged-clause-any_moment
returns-in_err-write_tagged-clause-any_moment g c = λ batches used count at.
    let m = (goal.at.returns-in_err-write_tagged-clause-any_moment g c).After-write_tagged in
    comes g m batches used count at _ (run g m batches used count at)

pub returns-in_err-sync-clause-any_moment : goal.returns-in_err-sync-clause-any_moment
returns-in_err-sync-clause-any_moment g c = λ batches used count at.
    let m = (goal.at.returns-in_err-sync-clause-any_moment g c).After-write_tagged in
    comes g m batches used count at _ (EachImageSince-sync _ _ _ _ (run g m batches used count at) (c.write_tagged.ensures.others at.honest).honest
    c.sync.ensures.medium)

pub returns-clause-any_moment : goal.returns-clause-any_moment
returns-clause-any_moment g c = λ batches used count at.
    let m = (goal.at.returns-clause-any_moment g c).After-write_tagged in
    comes g m batches used count at _ (EachImageSince-sync _ _ _ _ (run g m batches used count at) (c.write_tagged.ensures.others at.honest).honest
    c.sync.ensures.medium)

pub returns-clause-acknowledged : goal.returns-clause-acknowledged
returns-clause-acknowledged g c = λ batches used count at.
    let m = (goal.at.returns-clause-acknowledged g c).After-write_tagged in
    let range = c.args.range in
    let epoch = c.args.epoch in
    let batch = c.args.batch.now in
    let before = old g m batches used count at in
    let then = mid g m batches used count at in
    let new = g.D.SectorDisk.medium c.sync.new.self in
    let others = c.write_tagged.ensures.others at.honest in
    let written : IsTaggedAt (range.first + c.args.used) epoch (c.args.before + 1) batch then.contents = c.in_ok-write_tagged.ensures.written at.honest in
    let mixed = placed g m batches used count at before.contents then.contents (record { outside = others.contents; inside = λ i lt. inr (written i lt) }) in
    let there = subst (λ (n : ℕ). IsTaggedAt (range.first + n) epoch (length batches + 1) batch then.contents) used
    (subst (λ (n : ℕ). IsTaggedAt (range.first + c.args.used) epoch (n + 1) batch then.contents) count written) in
    let reads = at.honest.reads in
    let all = with_it range epoch batches batch before.contents then.contents c.requires.batch (omega arith) (omega arith) (omega arith) (omega arith)
    (at.images before.contents reads) (at.clear before.contents reads) mixed there in
    let clear = IsClear-after range epoch batches batch before.contents then.contents c.requires.batch (omega arith) (omega arith) (omega arith) (omega arith)
    (at.images before.contents reads) (at.clear before.contents reads) mixed in
    let end = sym (sectors_of-push Tagged batches batch) in
    let one : (image : Image) → new.images_now image → then.contents ≡ image = λ image now.
    sym (c.in_ok-sync.ensures.durable image now ∙ c.sync.ensures.medium.contents others.honest) in
    record {
      honest = c.sync.ensures.medium.time.honest.0 others.honest;
      images = λ image now. subst (Holds Tagged range epoch (batches ++ batch ∷ [])) (one image now) all;
      clear = λ image now. subst (IsClear Tagged range epoch (sectors_of Tagged (batches ++ batch ∷ []))) (one image now)
          (subst (λ (n : ℕ). IsClear Tagged range epoch n then.contents) end clear);
      alike = λ a b here now. subst (KeepsSectors Tagged range epoch a) (sym (one a here) ∙ one b now) (λ i lt is. refl);
    }
