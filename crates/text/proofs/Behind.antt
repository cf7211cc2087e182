-- Elements that are read one by one. Assumes nothing.
use Rattle.std.proofs.Common.{◌≡◌, List, [], ◌∷◌, ◌++◌, Ok, Err, Result, ap, sym, ◌∙◌}
use Rattle.std.proofs.lemmas.List.{append_assoc}

module _ {A E : Type 0} where
  -- what was read, in front of what is read of the rest
  abbrev pub behind : List A → Result (List A) E → Result (List A) E
  behind xs (Ok ys) = Ok (xs ++ ys)
  behind xs (Err e) = Err e

  -- one more is read, where `put` puts it in front
  pub behind_more : (put : Result (List A) E → Result (List A) E) (x : A) → ((ys : List A) → put (Ok ys) ≡ Ok (x ∷ ys)) → ((e : E) → put (Err e) ≡ Err e) →
      (xs : List A) (r : Result (List A) E) → behind xs (put r) ≡ behind (xs ++ x ∷ []) r
  behind_more put x good bad xs (Ok ys) = ap (behind xs) (good ys) ∙ ap Ok (sym (append_assoc xs (x ∷ []) ys))
  behind_more put x good bad xs (Err e) = ap (behind xs) (bad e)
