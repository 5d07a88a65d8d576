-- Letters that wait in a tray, and are posted.
use Rattle.windows.proofs.Words.{◌≡◌, ℕ, zero, suc, ◌-◌, ap, sym, ◌∙◌, subst, refl, List, [], ◌∷◌, ◌++◌, length, replicate, set, get_or, append_assoc, append-nil, arith, length-replicate, length-set, Letter, MailboxId, SlipView, IsSlipOf, filed, slip_of, with_lists, all_filed, with_letters, ArePosting}
use Rattle.{ledger.specs.Ledger.{each_with}, ledger.proofs.Lists.{with-length}}

-- a letter is filed, and what was filed is posted, in one order or the other
set_with : (rows lists : List (List Letter)) (k : ℕ) (x : Letter) → length lists ≡ length rows
    → each_with (◌++◌) rows (set lists k (get_or lists k [] ++ x ∷ [])) ≡ set (each_with (◌++◌) rows lists) k (get_or (each_with (◌++◌) rows lists) k [] ++ x ∷ [])
set_with [] [] k x e = refl
set_with [] (l ∷ lists) k x e = absurd (omega (arith, e))
set_with (r ∷ rows) [] k x e = absurd (omega (arith, e))
set_with (r ∷ rows) (l ∷ lists) zero x e = ap (λ q. q ∷ each_with (◌++◌) rows lists) (sym (append_assoc r l (x ∷ [])))
set_with (r ∷ rows) (l ∷ lists) (suc k) x e = ap (λ q. (r ++ l) ∷ q) (set_with rows lists k x (omega (arith, e)))

all_with : (rows lists : List (List Letter)) (letters : List Letter) → length lists ≡ length rows → each_with (◌++◌) rows (all_filed lists letters) ≡ all_filed (each_with (◌++◌) rows lists) letters
all_with rows lists [] e = refl
all_with rows lists (x ∷ letters) e =
    all_with rows (filed lists x) letters (length-set lists (x.key.receiver - 1) _ ∙ e) ∙ ap (λ q. all_filed q letters) (set_with rows lists (x.key.receiver - 1) x e)

none_with : (rows : List (List Letter)) → each_with (◌++◌) rows (replicate (length rows) []) ≡ rows
none_with [] = refl
none_with (r ∷ rows) = λ i. append-nil r i ∷ none_with rows i

-- no letter waits
posting_none : (mailboxes : List MailboxId) (slip : SlipView) (tray : List (List Letter)) → IsSlipOf mailboxes slip → length slip.posted ≡ length mailboxes → (n : ℕ) → tray ≡ replicate n [] → n ≡ length mailboxes
    → ArePosting mailboxes slip tray × (with_lists slip tray ≡ slip)
posting_none mailboxes slip tray by_slip posted n empty many = (
  record { by_slip = by_slip; posted = posted; waiting = ap length empty ∙ length-replicate n [] ∙ many },
  ap (slip_of slip.mailboxes) ((λ i. each_with (◌++◌) slip.posted ((empty ∙ ap (λ k. replicate k []) (many ∙ sym posted)) i)) ∙ none_with slip.posted),
)

module _ (mailboxes : List MailboxId) (slip : SlipView) (tray : List (List Letter)) where
  -- a tray for the slip, which is the same after that
  pub posting_opens : IsSlipOf mailboxes slip → length slip.posted ≡ length slip.mailboxes → tray ≡ replicate (length slip.mailboxes) []
      → (slip' : SlipView) → slip' ≡ slip → ArePosting mailboxes slip' tray × (with_lists slip' tray ≡ slip)
  posting_opens by_slip fits empty slip' same =
      subst (λ s. ArePosting mailboxes s tray × (with_lists s tray ≡ slip)) (sym same)
      (posting_none mailboxes slip tray by_slip (fits ∙ ap length by_slip) (length slip.mailboxes) empty (ap length by_slip))

  module _ (is : ArePosting mailboxes slip tray) where
    -- letters came into the tray
    pub posting_more : (more : List (List Letter)) → length more ≡ length tray → ArePosting mailboxes slip more
    posting_more more e = record { by_slip = is.by_slip; posted = is.posted; waiting = e ∙ is.waiting }

    pub posted_more : (more : List (List Letter)) (letters : List Letter) → more ≡ all_filed tray letters → with_lists slip more ≡ with_letters (with_lists slip tray) letters
    posted_more more letters came = ap (slip_of slip.mailboxes) (ap (each_with (◌++◌) slip.posted) came ∙ all_with slip.posted tray letters (is.waiting ∙ sym is.posted))

    -- all letters were posted
    pub all_posted : (slip' : SlipView) (tray' : List (List Letter)) → IsSlipOf mailboxes slip' → slip' ≡ with_lists slip tray → tray' ≡ replicate (length tray) [] → ArePosting mailboxes slip' tray' × (with_lists slip' tray' ≡ with_lists slip tray)
    all_posted slip' tray' by_slip posted empty =
        let now = posting_none mailboxes slip' tray' by_slip (ap (λ (s : SlipView). length s.posted) posted ∙ with-length (◌++◌) slip.posted tray ∙ is.posted) (length tray) empty is.waiting in
        (now.0, now.1 ∙ posted)
