-- Words taken one after the other. Assumes nothing.
use Rattle.std.proofs.Common.{◌≡◌, ℕ, ◌+◌, ◌<◌, ◌≤◌, List, length, get_or, drop, string_bytes, String, sym, ap, ◌∙◌}
use Rattle.std.proofs.lemmas.List.{drop_more, drop_all}
use Rattle.sums.specs.Sums.{each}
use Rattle.text.specs.Text.{Bytes}
use Rattle.wall_reader.specs.declared.words.Draft.{Draft}
use Rattle.wall_reader.specs.Requests.{word_taken, closed, on, asked_from, asked_by}

module _ {Z : Type 0} (ws : List (String Z)) (i : ℕ) (d : Draft) (so : asked_from (each string_bytes (drop i ws)) i d ≡ asked_by (each string_bytes ws)) where
  pub word_more : (s : String Z) → s ≡ get_or ws i s → i < length ws → (w : Bytes) → w ≡ string_bytes s →
      on i (word_taken d i w) (asked_from (each string_bytes (drop (i + 1) ws)) (i + 1)) ≡ asked_by (each string_bytes ws)
  unfolding asked_from each
  word_more s read h w is =
      ap (λ b. on i (word_taken d i b) (asked_from (each string_bytes (drop (i + 1) ws)) (i + 1))) (is ∙ ap string_bytes read)
      ∙ sym (ap (λ l. asked_from (each string_bytes l) i d) (drop_more ws i s h)) ∙ so

  pub words_all : length ws ≤ i → closed i d d.waits ≡ asked_by (each string_bytes ws)
  unfolding asked_from each
  words_all h = sym (ap (λ l. asked_from (each string_bytes l) i d) (drop_all i ws h)) ∙ so
