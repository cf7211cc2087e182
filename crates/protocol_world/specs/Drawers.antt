-- Which drawer holds what: the root record and the cursor where `store` has them, the pages of the two sets one after the other. Assumes nothing: these are
-- definitions.
use Rattle.std.specs.Prelude.{ℕ, ◌+◌}
use Rattle.store.specs.Drawers as store
use Rattle.protocol.specs.Limits.{kept_pages}
use Rattle.protocol.specs.Reader.{PageSet, no_set, first_set, second_set}

abbrev pub page_drawer : PageSet → (page : ℕ) → ℕ
page_drawer no_set q = store.first_set + q
page_drawer first_set q = store.first_set + q
page_drawer second_set q = store.first_set + kept_pages + q
