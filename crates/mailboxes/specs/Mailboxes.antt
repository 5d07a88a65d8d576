-- What contracts see of mailboxes, one for each receiver 1 to n, of slips, of tickets and of an owner's pass.
use Rattle.std.specs.{Coded.{Coded, code_by, coded×, coded_list, coded_ℕ}, Prelude.{◌≡◌, refl, ℕ, ◌-◌, List, [], ◌∷◌, ◌++◌, length, map, replicate, slice_index_or, slice_set, ◌+◌, Option, Some, None, min}, Global.{Vec, Global}}
use Rattle.{std.specs.List.{flat_map, Sorted.{IsPermutation}}, crossbeam_queue.specs.SegTies.{SegId}, process_api.specs.declared.message.Letter.{Letter}, ledger.specs.Ledger.{each_with}}

-- which mailbox it is
abbrev pub MailboxId : Type 0
MailboxId = SegId Global

-- a ticket: whose it is, and what was posted by it
pub record TicketView : Type 0 where
  pub mailbox : MailboxId
  pub posted : List Letter

-- the owner's pass: whose it is, how many tickets are out, and what was posted by those that came back
pub record HomeView : Type 0 where
  pub mailbox : MailboxId
  pub out : ℕ
  pub back : List Letter

-- stored as the pairs of their fields
abbrev pub ticket_code : Coded MailboxId → Coded Letter → Coded TicketView
ticket_code mailbox letter = code_by (MailboxId × List Letter) (coded× mailbox (coded_list letter))
    (λ t. (t.mailbox, t.posted)) (λ p. record { mailbox = p.0; posted = p.1 }) (λ _. refl)

abbrev pub home_code : Coded MailboxId → Coded Letter → Coded HomeView
home_code mailbox letter = code_by (MailboxId × (ℕ × List Letter)) (coded× mailbox (coded× coded_ℕ (coded_list letter)))
    (λ h. (h.mailbox, (h.out, h.back))) (λ p. record { mailbox = p.0; out = p.1.0; back = p.1.1 }) (λ _. refl)

abbrev pub ticket_of : MailboxId → List Letter → TicketView
ticket_of mailbox posted = record { mailbox = mailbox; posted = posted }

abbrev pub home_of : MailboxId → ℕ → List Letter → HomeView
home_of mailbox out back = record { mailbox = mailbox; out = out; back = back }

-- the owner's passes of these mailboxes: so many tickets of each are out, and none came back
abbrev pub homes_of : ℕ → List MailboxId → List HomeView
homes_of out mailboxes = map (λ m. home_of m out []) mailboxes

-- one more ticket is out
abbrev pub one_out : HomeView → HomeView
one_out h = home_of h.mailbox (h.out + 1) h.back

-- a ticket is back, by which these letters were posted
abbrev pub one_back : HomeView → List Letter → HomeView
one_back h letters = home_of h.mailbox (h.out - 1) (h.back ++ letters)

-- a ticket of each mailbox is back, with these letters
abbrev pub all_back : List HomeView → List (List Letter) → List HomeView
all_back hs rows = each_with one_back hs rows

-- the lesser of two ticks, as far as they are there
abbrev pub earlier_of : Option ℕ → Option ℕ → Option ℕ
earlier_of None b = b
earlier_of (Some a) None = Some a
earlier_of (Some a) (Some b) = Some (min a b)

-- the least tick of these letters, if there are any
abbrev pub soonest_in : List Letter → Option ℕ
soonest_in [] = None
soonest_in (x ∷ letters) = earlier_of (Some x.key.tick) (soonest_in letters)

-- by this relation the new collector is the old one after it was given these letters, in this order
abbrev pub WasGiven : {T : Type 0} → (T → T → List Letter → Type 0) → (old new : T) → List Letter → Type 0
WasGiven {T} collected old new letters =
    (first : T) (so_far : List Letter) → collected first old so_far → collected first new (so_far ++ letters)

-- the same in some order
abbrev pub HasCollected : {T : Type 0} → (T → T → List Letter → Type 0) → List Letter → (old new : T) → Type 0
HasCollected collected letters old new =
    (order : List Letter) × IsPermutation letters order × WasGiven collected old new order

-- which mailboxes they are, by receiver, and how many slips were made
pub record MailboxesView : Type 0 where
  pub mailboxes : List MailboxId
  pub slips : ℕ

-- of which mailboxes the slip is, and what was posted by it to each receiver
pub record SlipView : Type 0 where
  pub mailboxes : List MailboxId
  pub posted : List (List Letter)

-- stored as the pair of its fields
abbrev pub slip_code : Coded MailboxId → Coded Letter → Coded SlipView
slip_code mailbox letter =
    code_by (List MailboxId × List (List Letter)) (coded× (coded_list mailbox) (coded_list (coded_list letter)))
    (λ s. (s.mailboxes, s.posted)) (λ p. record { mailboxes = p.0; posted = p.1 }) (λ _. refl)

abbrev pub slip_of : List MailboxId → List (List Letter) → SlipView
slip_of mailboxes posted = record { mailboxes = mailboxes; posted = posted }

abbrev pub mailboxes_of : List MailboxId → ℕ → MailboxesView
mailboxes_of mailboxes slips = record { mailboxes = mailboxes; slips = slips }

-- the slip is of these mailboxes
abbrev pub IsSlipOf : List MailboxId → SlipView → Type 0
IsSlipOf mailboxes s = s.mailboxes ≡ mailboxes

-- the list of receiver r, where there is one for each receiver
abbrev pub list_of : List (List Letter) → ℕ → List Letter
list_of lists r = slice_index_or lists (r - 1) []

-- a slip by which nothing was posted yet
abbrev pub unused : List MailboxId → SlipView
unused mailboxes = slip_of mailboxes (replicate (length mailboxes) [])

-- the lists of all receivers with one letter more
abbrev pub filed : List (List Letter) → Letter → List (List Letter)
filed lists x = slice_set lists (x.key.receiver - 1) (list_of lists x.key.receiver ++ x ∷ [])

-- the slip after one letter more was posted by it
abbrev pub with_letter : SlipView → Letter → SlipView
with_letter s x = slip_of s.mailboxes (filed s.posted x)

-- the slip after the letters of these lists, one for each receiver, were posted by it
abbrev pub with_lists : SlipView → List (List Letter) → SlipView
with_lists s lists = slip_of s.mailboxes (each_with (◌++◌) s.posted lists)

-- all letters that these slips posted to receiver r
abbrev pub posted_to : List SlipView → ℕ → List Letter
posted_to slips r = flat_map (λ s. list_of s.posted r) slips

-- the letters in each of these vectors
abbrev pub letters_in : List (Vec Letter) → List (List Letter)
letters_in lists = map (λ v. v.items) lists

-- those of receiver r
abbrev pub letters_of : List (Vec Letter) → ℕ → List Letter
letters_of lists r = list_of (letters_in lists) r
