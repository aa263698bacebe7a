-- `net::check_net` meets its contract: behind head, size and length the answer of all rows is given.
use Rattle.std.proofs.Common.{◌≡◌, Ok, arith, rules}
use Rattle.std.proofs.lemmas.Grind.{common_steps}
use Rattle.forms.specs.Word.{byte}
use Rattle.forms.specs.Checked.{Checked, in_turn}
use Rattle.forms.specs.Stored.{net_of}
use Rattle.forms.specs.Nets.{check_row, check_net}
use Rattle.forms.proofs.Turns.{left-stop, left_end}
use Rattle.forms.proofs.net.check_net.Goals as goal

pub returns-in_err-check_row : goal.returns-in_err-check_row
unfolding check_net
returns-in_err-check_row c =
    let net = c.args.net.now in
    let all : c.from_residual.result ≡ in_turn (check_row (net_of net)) 0 (byte net 6) = search (rules, left-stop) in
    grind (arith, common_steps)

pub returns : goal.returns
unfolding check_net
returns c =
    let net = c.args.net.now in
    let all : ◌≡◌ {A = Checked} (Ok tt) (in_turn (check_row (net_of net)) 0 (byte net 6)) = search (rules, left_end) in
    grind (arith, common_steps)
