-- Tickets and lists of letters that change at one place.
use Rattle.mailboxes.proofs.{Words.{◌≡◌, ℕ, zero, suc, ◌<◌, List, [], ◌∷◌, ◌++◌, length, map, replicate, set, get_or, refl, ap, ◌∙◌, arith, append-nil, Vec, Letter, TicketView, letters_in, each_with}, Homes.{whose, posted_by}}

-- the list of letters at one place gets more
pub row_more : {A : Type 0} (f : A → List Letter) (xs : List A) (i : ℕ) (old new : A) → old ≡ get_or xs i old → (zs : List Letter) → f new ≡ f old ++ zs
    → map f (set xs i new) ≡ set (map f xs) i (get_or (map f xs) i [] ++ zs)
row_more f [] i old new was zs more = refl
row_more f (x ∷ xs) zero old new was zs more = ap (λ q. q ∷ map f xs) (more ∙ ap (λ o. f o ++ zs) was)
row_more f (x ∷ xs) (suc i) old new was zs more = ap (λ q. f x ∷ q) (row_more f xs i old new was zs more)

-- one ticket is changed to another of the same mailbox
pub whose_same : (tickets : List TicketView) (i : ℕ) (old new : TicketView) → old ≡ get_or tickets i old → new.mailbox ≡ old.mailbox → map whose (set tickets i new) ≡ map whose tickets
whose_same [] i old new was same = refl
whose_same (t ∷ tickets) zero old new was same = ap (λ q. q ∷ map whose tickets) (same ∙ ap whose was)
whose_same (t ∷ tickets) (suc i) old new was same = ap (λ q. t.mailbox ∷ q) (whose_same tickets i old new was same)

-- what was posted to each receiver, with what waits to be posted
abbrev pub total : List TicketView → List (Vec Letter) → List (List Letter)
total tickets lists = each_with (◌++◌) (map posted_by tickets) (letters_in lists)

-- the letters at one place are posted, and the list there is emptied: all together is as it was
pub total_same : (tickets : List TicketView) (lists : List (Vec Letter)) (i : ℕ) (t u : TicketView) (v w : Vec Letter) → t ≡ get_or tickets i t → v ≡ get_or lists i v → i < length lists
    → u.posted ≡ t.posted ++ v.items → w.items ≡ [] → total (set tickets i u) (set lists i w) ≡ total tickets lists
total_same [] lists i t u v w was is le new none = refl
total_same (x ∷ xs) [] i t u v w was is le new none = absurd (omega arith)
total_same (x ∷ xs) (l ∷ ls) zero t u v w was is le new none = ap (λ r. r ∷ total xs ls) ((λ j. new j ++ none j) ∙ append-nil _ ∙ (λ j. (was j).posted ++ (is j).items))
total_same (x ∷ xs) (l ∷ ls) (suc i) t u v w was is le new none = ap (λ r. (x.posted ++ l.items) ∷ r) (total_same xs ls i t u v w was is (omega arith) new none)

pub with_nothing : (ps : List (List Letter)) (n : ℕ) → each_with (◌++◌) ps (replicate n []) ≡ ps
with_nothing [] n = refl
with_nothing (p ∷ ps) zero = refl
with_nothing (p ∷ ps) (suc n) = λ j. append-nil p j ∷ with_nothing ps n j
