-- Tickets, which go out and come back, their owner's passes, and inboxes.
use Rattle.mailboxes.proofs.Words.{◌≡◌, ℕ, zero, suc, List, [], ◌∷◌, ◌++◌, Option, Some, None, length, map, get_or, refl, ap, ◌∙◌, arith, Vec, All, All-nil, All-cons, All-head, All-tail, Letter, MailboxId, TicketView, HomeView, homes_of, one_back, all_back, earlier_of, soonest_in, SlipView, slip_of, with-map}

abbrev pub mailbox_of : HomeView → MailboxId
mailbox_of h = h.mailbox

abbrev pub back_of : HomeView → List Letter
back_of h = h.back

abbrev pub whose : TicketView → MailboxId
whose t = t.mailbox

abbrev pub posted_by : TicketView → List Letter
posted_by t = t.posted

pub back-mailboxes : (hs : List HomeView) (rows : List (List Letter)) → map mailbox_of (all_back hs rows) ≡ map mailbox_of hs
back-mailboxes = with-map one_back mailbox_of (λ h x. refl)

pub back-out : (k less : ℕ) (hs : List HomeView) (rows : List (List Letter)) → k ≡ suc less → length rows ≡ length hs → All (λ h. h.out ≡ k) hs → All (λ h. h.out ≡ less) (all_back hs rows)
back-out k less [] rows one e out = All-nil (λ (h : HomeView). h.out ≡ less)
back-out k less (h ∷ hs) [] one e out = absurd (omega arith)
back-out k less (h ∷ hs) (x ∷ rows) one e out =
    All-cons (λ (h : HomeView). h.out ≡ less) (one_back h x) (all_back hs rows) (omega (arith, one, All-head (λ (h : HomeView). h.out ≡ k) h hs out))
    (back-out k less hs rows one (omega arith) (All-tail (λ (h : HomeView). h.out ≡ k) h hs out))

pub back-posted : (k : ℕ) (hs : List HomeView) (rows : List (List Letter)) → length rows ≡ length hs
    → get_or (map back_of (all_back hs rows)) k [] ≡ get_or (map back_of hs) k [] ++ get_or rows k []
back-posted k [] [] e = refl
back-posted k [] (x ∷ rows) e = absurd (omega arith)
back-posted k (h ∷ hs) [] e = absurd (omega arith)
back-posted zero (h ∷ hs) (x ∷ rows) e = refl
back-posted (suc k) (h ∷ hs) (x ∷ rows) e = back-posted k hs rows (omega arith)

abbrev pub slip_with : List TicketView → SlipView
slip_with ts = slip_of (map (λ t. t.mailbox) ts) (map (λ t. t.posted) ts)

pub none_back : (n k : ℕ) (ids : List MailboxId) → get_or (map back_of (homes_of n ids)) k [] ≡ []
none_back n k [] = refl
none_back n zero (m ∷ ids) = refl
none_back n (suc k) (m ∷ ids) = none_back n k ids

-- ---- inboxes

abbrev pub items_of : Vec Letter → List Letter
items_of v = v.items

-- every ticket is back
abbrev pub IsIn : HomeView → Type 0
IsIn h = h.out ≡ 0

-- there is no letter
abbrev pub IsEmpty : List Letter → Type 0
IsEmpty letters = letters ≡ []

-- ---- the least tick of letters

earlier_three : (a b c : Option ℕ) → earlier_of a (earlier_of b c) ≡ earlier_of (earlier_of a b) c
earlier_three None b c = refl
earlier_three (Some a) None c = refl
earlier_three (Some a) (Some b) None = refl
earlier_three (Some a) (Some b) (Some c) = ap Some (omega arith)

-- of two lists together
pub soonest_both : (xs ys : List Letter) → soonest_in (xs ++ ys) ≡ earlier_of (soonest_in xs) (soonest_in ys)
soonest_both [] ys = refl
soonest_both (x ∷ xs) ys = ap (earlier_of (Some x.key.tick)) (soonest_both xs ys) ∙ earlier_three (Some x.key.tick) (soonest_in xs) (soonest_in ys)
