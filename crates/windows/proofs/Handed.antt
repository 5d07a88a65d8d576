-- What a sink took, part by part.
use Rattle.windows.proofs.Words.{◌≡◌, sym, ap, ◌∙◌, List, [], ◌∷◌, ◌++◌, append_assoc, append-nil, Result, Ok, Err, OnErr, EntryRecord, TookAll, end_to_end}

-- what holds anyhow holds of a refusal
pub on_err : {A E : Type 0} (r : Result A E) (P : Type 0) → P → OnErr r P
on_err (Ok x) P p = tt
on_err (Err e) P p = p

-- a keeping sink has the parts end to end
pub kept_all : {K : Type 0} (items : K → List EntryRecord) (took : K → List EntryRecord → K → Type 0) → ((a b : K) (part : List EntryRecord) → took a part b → items b ≡ items a ++ part) → (old new : K) (parts : List (List EntryRecord)) → TookAll took old parts new → items new ≡ items old ++ end_to_end parts
kept_all items took one old new [] all = ap items all ∙ sym (append-nil (items old))
kept_all items took one old new (x ∷ parts) all =
    kept_all items took one all.0 new parts all.2 ∙ (ap (λ es. es ++ end_to_end parts) (one old all.0 x all.1) ∙ append_assoc (items old) x (end_to_end parts))
