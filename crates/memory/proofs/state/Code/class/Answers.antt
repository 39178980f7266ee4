-- `memory::state::Code::class` asks three questions of the byte; what they come to is computed for each byte.
use Rattle.std.proofs.Common.{◌≡◌, rules}
use Rattle.text.specs.Bytes.{between}
use Rattle.memory.specs.States.{last_code}
use Rattle.memory.proofs.ClassLaws.{class_by_code}
use Rattle.memory.proofs.state.Code.class.Goals as goal

pub returns : goal.returns
returns c =
    let within : c.contains.result ≡ between 12 last_code c.args.self.0 = search rules in
    rw within (class_by_code c.args.self.0 (search rules))
