use Rattle.windows.proofs.Words.{rules, ◌≡◌, ◌++◌, ◌∷◌, [], refl, sym, ap, ◌∙◌, subst, append_assoc, append-nil, Contains, IsPermutation, All-contains, IsPermutation-refl, IsPermutation-trans, IsPermutation-append_left, RestView, all_put, SlipView, IsReady, AreRunBy}
use Rattle.windows.proofs.{Posting.{posting_opens}, Gathered.{run_begins}, gather.run_rest.Goals.{in-None, in-Some+in_default}}
use Rattle.windows.proofs.gather.run_rest.Goals as goal

pub loop-init : goal.loop-init
loop-init g c =
    let w = c.args.shared.now in
    let old = c.args.rest.now.taken in
    let begins = posting_opens _ _ _ (ap (λ (s : SlipView). s.mailboxes) c.requires.slip) c.in_ok-tray.ensures.fits c.in_ok-tray.ensures.empty _ c.in_ok-tray.ensures.slip in (
      [],
      run_begins g.M.Process.mind w.window.now.streams w.window.now.end w.mailboxes.now [] _ _ refl (begins.1 ∙ c.requires.slip) c.new-done.ensures.items,
      begins.0,
      refl,
      c.requires.out,
      subst (λ l. IsPermutation l old) (sym (append-nil old)) (IsPermutation-refl old),
    )

pub run_taken-requires-clause-ready : goal.run_taken-requires-clause-ready
run_taken-requires-clause-ready g c κs within =
    All-contains (IsReady g.M.Process.mind c.args.shared.now.window.now.streams) (all_put c.args.rest.now.own) c.in-Some-take_last.berth c.requires.ready
    (subst (λ l. Contains (all_put l) c.in-Some-take_last.berth) c.loop.invariant.3 c.in-Some-take_last.ensures.3)

pub returns-in_err-run_taken-clause-limit : goal.returns-in_err-run_taken-clause-limit
returns-in_err-run_taken-clause-limit g c is = (
  c.in-Some-take_last.berth,
  subst (λ l. Contains (all_put l) c.in-Some-take_last.berth) c.loop.invariant.3 c.in-Some-take_last.ensures.3,
  λ history after rest letters run. c.run_taken.ensures.limit (search rules) history after rest letters run,
)

pub loop-preserved : goal.loop-preserved
loop-preserved g c =
    let inv = c.loop.invariant in
    let took = c.in-Some-take_last.ensures in
    let b = c.in-Some-take_last.berth in
    let old = c.args.rest.now.taken in (
      inv.0 ++ b ∷ [],
      c.in_ok-run_taken.ensures.ran inv.0 inv.1,
      c.in_ok-run_taken.ensures.posting,
      ap (λ (r : RestView _). r.own) took.1 ∙ inv.3,
      ap (λ (r : RestView _). r.out) took.1,
      subst (IsPermutation (old ++ (inv.0 ++ b ∷ []))) (sym (ap (λ (r : RestView _). r.taken) took.1))
          (subst (λ l. IsPermutation l took.0) (append_assoc old inv.0 (b ∷ [])) (IsPermutation-trans _ _ _ (IsPermutation-append_left (b ∷ []) _ _ inv.5) took.2)),
    )

pub returns-clause-rest : goal.returns-clause-rest
returns-clause-rest g c =
    elim c.match-next.branch [
      | in-None w ↦ absurd (search rules)
      | in-Some+in_default w ↦
          let inv = c.loop.invariant in
          let last : c.match-next.rest ≡ c.loop.rest = w.rest-is ∙ w.in_default.ensures.0 in
          record {
            rest = inv.0;
            run = subst (λ s. AreRunBy g.M.Process.mind c.args.shared.now.window.now.streams c.args.shared.now.window.now.end c.args.shared.now.mailboxes.now inv.0 s c.loop.done.items) (sym (c.keep.ensures ∙ c.in_ok-post_all.ensures.ok)) inv.1;
            taken = subst (λ (r : RestView _). IsPermutation (c.args.rest.now.taken ++ inv.0) r.taken) (sym last) inv.5;
            same = subst (λ l. IsPermutation (all_put l) c.match-next.rest.taken) inv.3
                (subst (λ (r : RestView _). IsPermutation (all_put c.loop.rest.own) r.taken) (sym last) w.in_default.ensures.1);
          }
    ]
