use Rattle.lynx_lines.proofs.SpelledLemmas.{server_read}
use Rattle.lynx_lines.proofs.script.read_server.Goals as goal

pub returns : goal.returns
returns c =
    server_read c.args.set.now c.servers-servers.result c.in_ok-number.number c.args.word.now c.known_server.result c.servers-servers.ensures.value c.known_server.ensures.ok c.known_server.ensures.err
    c.servers-servers.ensures.few c.in_ok-number.ensures.0 c.in_ok-number.ensures.1
