-- Which part of the request is not there, or not as it may be, and that nothing that may be asked by this byte is then there.
use Rattle.std.proofs.Common.{Err, ap, ◌∙◌, arith}
use Rattle.std.proofs.lemmas.Result.{err_from_is_err_and}
use Rattle.menuask.specs.Requests.{NoNumber, NoSlice, NoEvent}
use Rattle.menuask.proofs.Begins.{goes-on, says, in-rest, in-last, in-third, in-step, no-done, no-undone, no-degree, no-fact, other-fact, no-events, no-fact-behind, other-fact-behind, no-budget}
use Rattle.menuask.proofs.request.read.Goals as goal

pub returns-in_err-first-in-4-clause-bad : goal.returns-in_err-first-in-4-clause-bad
returns-in_err-first-in-4-clause-bad g c =
    let p = err_from_is_err_and c.from_residual-in_err-first-in-4.result c.from_residual-in_err-first-in-4.ensures.1 in
    goes-on _ _ (NoEvent _) _ (p.1 ∙ ap Err p.2) c.in_err-first-in-4.ensures.bad
    (λ none. in-rest 4 (omega arith) (λ e. omega (arith, e)) _ _ _ _ _ _ _ _ _ _ c.in-4.is c.in_ok-net-in-4.ensures.in_range.0 c.in_ok-net-in-4.ensures.in_range.1 c.in_ok-net-in-4.ensures.bytes
    (no-done _ _ none))

pub returns-in_err-first-in-5-clause-bad : goal.returns-in_err-first-in-5-clause-bad
returns-in_err-first-in-5-clause-bad g c =
    let p = err_from_is_err_and c.from_residual-in_err-first-in-5.result c.from_residual-in_err-first-in-5.ensures.1 in
    goes-on _ _ (NoEvent _) _ (p.1 ∙ ap Err p.2) c.in_err-first-in-5.ensures.bad
    (λ none. in-rest 5 (omega arith) (λ e. omega (arith, e)) _ _ _ _ _ _ _ _ _ _ c.in-5.is c.in_ok-net-in-5.ensures.in_range.0 c.in_ok-net-in-5.ensures.in_range.1 c.in_ok-net-in-5.ensures.bytes
    (no-undone _ _ none))

pub returns-in_err-transition-in-6-clause-bad : goal.returns-in_err-transition-in-6-clause-bad
returns-in_err-transition-in-6-clause-bad g c =
    let p = err_from_is_err_and c.from_residual-in_err-transition-in-6.result c.from_residual-in_err-transition-in-6.ensures.1 in
    goes-on _ _ (NoNumber _) _ (p.1 ∙ ap Err p.2) c.in_err-transition-in-6.ensures.bad
    (λ none. in-rest 6 (omega arith) (λ e. omega (arith, e)) _ _ _ _ _ _ _ _ _ _ c.in-6.is c.in_ok-net-in-6.ensures.in_range.0 c.in_ok-net-in-6.ensures.in_range.1 c.in_ok-net-in-6.ensures.bytes
    (no-degree _ _ none))

pub returns-in_err-third-in-8-clause-bad : goal.returns-in_err-third-in-8-clause-bad
returns-in_err-third-in-8-clause-bad g c =
    let p = err_from_is_err_and c.from_residual-in_err-third-in-8.result c.from_residual-in_err-third-in-8.ensures.1 in
    goes-on _ _ (NoSlice _ _) _ (p.1 ∙ ap Err p.2) c.in_err-third-in-8.ensures.bad
    (λ none. in-rest 8 (omega arith) (λ e. omega (arith, e)) _ _ _ _ _ _ _ _ _ _ c.in-8.is c.in_ok-net-in-8.ensures.in_range.0 c.in_ok-net-in-8.ensures.in_range.1 c.in_ok-net-in-8.ensures.bytes
    (in-third 8 (omega arith) (λ e. omega (arith, e)) _ _ _ c.in_ok-net-in-8.ensures.third_after none))

pub returns-in_err-number-in-8-clause-bad : goal.returns-in_err-number-in-8-clause-bad
returns-in_err-number-in-8-clause-bad g c =
    let p = err_from_is_err_and c.from_residual-in_err-number-in-8.result c.from_residual-in_err-number-in-8.ensures.1 in
    goes-on _ _ (NoNumber _) _ (p.1 ∙ ap Err p.2) c.in_err-number-in-8.ensures.bad
    (λ none. in-rest 8 (omega arith) (λ e. omega (arith, e)) _ _ _ _ _ _ _ _ _ _ c.in-8.is c.in_ok-net-in-8.ensures.in_range.0 c.in_ok-net-in-8.ensures.in_range.1 c.in_ok-net-in-8.ensures.bytes
    (in-last 8 (omega arith) (λ e. omega (arith, e)) (λ e. omega (arith, e)) _ _ _ _ _ c.in_ok-third-in-8.ensures.in_range c.in_ok-third-in-8.ensures.bytes (no-fact _ none)))

pub returns-in_err-started-in-8-clause-bad : goal.returns-in_err-started-in-8-clause-bad
returns-in_err-started-in-8-clause-bad g c =
    says _ _
    (in-rest 8 (omega arith) (λ e. omega (arith, e)) _ _ _ _ _ _ _ _ _ _ c.in-8.is c.in_ok-net-in-8.ensures.in_range.0 c.in_ok-net-in-8.ensures.in_range.1 c.in_ok-net-in-8.ensures.bytes
    (in-last 8 (omega arith) (λ e. omega (arith, e)) (λ e. omega (arith, e)) _ _ _ _ _ c.in_ok-third-in-8.ensures.in_range c.in_ok-third-in-8.ensures.bytes (other-fact _ _ _ c.in_ok-number-in-8.ensures.in_range c.in_err-started-in-8.ensures.value.1 c.in_ok-number-in-8.ensures.bytes)))

pub returns-in_err-third-in-9-clause-bad : goal.returns-in_err-third-in-9-clause-bad
returns-in_err-third-in-9-clause-bad g c =
    let p = err_from_is_err_and c.from_residual-in_err-third-in-9.result c.from_residual-in_err-third-in-9.ensures.1 in
    goes-on _ _ (NoSlice _ _) _ (p.1 ∙ ap Err p.2) c.in_err-third-in-9.ensures.bad
    (λ none. in-rest 9 (omega arith) (λ e. omega (arith, e)) _ _ _ _ _ _ _ _ _ _ c.in-9.is c.in_ok-net-in-9.ensures.in_range.0 c.in_ok-net-in-9.ensures.in_range.1 c.in_ok-net-in-9.ensures.bytes
    (in-third 9 (omega arith) (λ e. omega (arith, e)) _ _ _ c.in_ok-net-in-9.ensures.third_after none))

pub returns-in_err-events-in-9-clause-bad : goal.returns-in_err-events-in-9-clause-bad
returns-in_err-events-in-9-clause-bad g c =
    let p = err_from_is_err_and c.from_residual-in_err-events-in-9.result c.from_residual-in_err-events-in-9.ensures.1 in
    goes-on _ _ (NoNumber _) _ (p.1 ∙ ap Err p.2) c.in_err-events-in-9.ensures.bad
    (λ none. in-rest 9 (omega arith) (λ e. omega (arith, e)) _ _ _ _ _ _ _ _ _ _ c.in-9.is c.in_ok-net-in-9.ensures.in_range.0 c.in_ok-net-in-9.ensures.in_range.1 c.in_ok-net-in-9.ensures.bytes
    (in-last 9 (omega arith) (λ e. omega (arith, e)) (λ e. omega (arith, e)) _ _ _ _ _ c.in_ok-third-in-9.ensures.in_range c.in_ok-third-in-9.ensures.bytes (no-events _ none)))

pub returns-in_err-number-in-9-clause-bad : goal.returns-in_err-number-in-9-clause-bad
returns-in_err-number-in-9-clause-bad g c =
    let p = err_from_is_err_and c.from_residual-in_err-number-in-9.result c.from_residual-in_err-number-in-9.ensures.1 in
    goes-on _ _ (NoNumber _) _ (p.1 ∙ ap Err p.2) c.in_err-number-in-9.ensures.bad
    (λ none. in-rest 9 (omega arith) (λ e. omega (arith, e)) _ _ _ _ _ _ _ _ _ _ c.in-9.is c.in_ok-net-in-9.ensures.in_range.0 c.in_ok-net-in-9.ensures.in_range.1 c.in_ok-net-in-9.ensures.bytes
    (in-last 9 (omega arith) (λ e. omega (arith, e)) (λ e. omega (arith, e)) _ _ _ _ _ c.in_ok-third-in-9.ensures.in_range c.in_ok-third-in-9.ensures.bytes (no-fact-behind _ _ _ c.in_ok-events-in-9.ensures.bytes none)))

pub returns-in_err-started-in-9-clause-bad : goal.returns-in_err-started-in-9-clause-bad
returns-in_err-started-in-9-clause-bad g c =
    says _ _
    (in-rest 9 (omega arith) (λ e. omega (arith, e)) _ _ _ _ _ _ _ _ _ _ c.in-9.is c.in_ok-net-in-9.ensures.in_range.0 c.in_ok-net-in-9.ensures.in_range.1 c.in_ok-net-in-9.ensures.bytes
    (in-last 9 (omega arith) (λ e. omega (arith, e)) (λ e. omega (arith, e)) _ _ _ _ _ c.in_ok-third-in-9.ensures.in_range c.in_ok-third-in-9.ensures.bytes (other-fact-behind _ _ _ _ _ c.in_ok-number-in-9.ensures.in_range c.in_err-started-in-9.ensures.value.1 c.in_ok-events-in-9.ensures.bytes c.in_ok-number-in-9.ensures.bytes)))

pub returns-in_err-step-in-10-clause-bad : goal.returns-in_err-step-in-10-clause-bad
returns-in_err-step-in-10-clause-bad g c =
    let p = err_from_is_err_and c.from_residual-in_err-step-in-10.result c.from_residual-in_err-step-in-10.ensures.1 in
    goes-on _ _ (NoNumber _) _ (p.1 ∙ ap Err p.2) c.in_err-step-in-10.ensures.bad
    (λ none. in-step _ _ _ _ _ _ _ _ c.in-10.is c.in_ok-third-in-10.ensures.in_range c.in_ok-third-in-10.ensures.bytes none)

pub returns-in_err-third-in-11-clause-bad : goal.returns-in_err-third-in-11-clause-bad
returns-in_err-third-in-11-clause-bad g c =
    let p = err_from_is_err_and c.from_residual-in_err-third-in-11.result c.from_residual-in_err-third-in-11.ensures.1 in
    goes-on _ _ (NoSlice _ _) _ (p.1 ∙ ap Err p.2) c.in_err-third-in-11.ensures.bad
    (λ none. in-rest 11 (omega arith) (λ e. omega (arith, e)) _ _ _ _ _ _ _ _ _ _ c.in-11.is c.in_ok-net-in-11.ensures.in_range.0 c.in_ok-net-in-11.ensures.in_range.1 c.in_ok-net-in-11.ensures.bytes
    (in-third 11 (omega arith) (λ e. omega (arith, e)) _ _ _ c.in_ok-net-in-11.ensures.third_after none))

pub returns-in_err-budget-in-11-clause-bad : goal.returns-in_err-budget-in-11-clause-bad
returns-in_err-budget-in-11-clause-bad g c =
    let p = err_from_is_err_and c.from_residual-in_err-budget-in-11.result c.from_residual-in_err-budget-in-11.ensures.1 in
    goes-on _ _ (NoNumber _) _ (p.1 ∙ ap Err p.2) c.in_err-budget-in-11.ensures.bad
    (λ none. in-rest 11 (omega arith) (λ e. omega (arith, e)) _ _ _ _ _ _ _ _ _ _ c.in-11.is c.in_ok-net-in-11.ensures.in_range.0 c.in_ok-net-in-11.ensures.in_range.1 c.in_ok-net-in-11.ensures.bytes
    (in-last 11 (omega arith) (λ e. omega (arith, e)) (λ e. omega (arith, e)) _ _ _ _ _ c.in_ok-third-in-11.ensures.in_range c.in_ok-third-in-11.ensures.bytes (no-budget _ none)))

pub returns-in_err-third-in-12-clause-bad : goal.returns-in_err-third-in-12-clause-bad
returns-in_err-third-in-12-clause-bad g c =
    let p = err_from_is_err_and c.from_residual-in_err-third-in-12.result c.from_residual-in_err-third-in-12.ensures.1 in
    goes-on _ _ (NoSlice _ _) _ (p.1 ∙ ap Err p.2) c.in_err-third-in-12.ensures.bad
    (λ none. in-rest 12 (omega arith) (λ e. omega (arith, e)) _ _ _ _ _ _ _ _ _ _ c.in-12.is c.in_ok-net-in-12.ensures.in_range.0 c.in_ok-net-in-12.ensures.in_range.1 c.in_ok-net-in-12.ensures.bytes
    (in-third 12 (omega arith) (λ e. omega (arith, e)) _ _ _ c.in_ok-net-in-12.ensures.third_after none))
