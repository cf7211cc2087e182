-- Whether it is asked to say how far something long is. Assumes nothing: these are definitions.
use Rattle.std.specs.Prelude.{Bool, false, cond, List, [], ◌∷◌, codes}
use Rattle.std.specs.Str.{bytes_eq}
use Rattle.text.specs.Text.{Bytes}

-- the last word asks for it
unfoldable pub asks_progress : List Bytes → Bool
asks_progress [] = false
asks_progress (w ∷ []) = bytes_eq w (codes "--progress")
asks_progress (w ∷ v ∷ ws) = asks_progress (v ∷ ws)

-- the words before it, or all of them
unfoldable pub without_progress : List Bytes → List Bytes
without_progress [] = []
without_progress (w ∷ []) = cond (bytes_eq w (codes "--progress")) [] (w ∷ [])
without_progress (w ∷ v ∷ ws) = w ∷ without_progress (v ∷ ws)
