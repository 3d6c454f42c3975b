-- What is saved is the same in all images that were read. A header counts what is there later, and tagged batches come
-- one after another.
use Rattle.ipc_store.specs.Image.{epoch_at, journal_range}
use Rattle.ipc_image.specs.Format.{device_form}
use Rattle.ipc_store.proofs.Meanwhile.{read-in-parts, read-stands}
use Rattle.ipc_store.proofs.laws.a_look_is_of_one_image.Goals as goal

pub returns-clause-headed : goal.returns-clause-headed
returns-clause-headed c = λ limits was s first seen read headed began stands is. read-stands first seen read is limits was s headed began stands

pub returns-clause-tagged : goal.returns-clause-tagged
returns-clause-tagged c = λ limits was first whole read more.
    read-in-parts limits was first whole read more
    (λ earlier batches. c.tagged_batches_are_read_from_the_first_on.ensures.read (journal_range (device_form limits)) (epoch_at first) earlier batches
    whole read)
