use Rattle.wat_value.proofs.DecodingLemmas.{reads_back}
use Rattle.wat_value.proofs.decoding.decode.Goals as goal

pub returns-clause-round_trip : goal.returns-clause-round_trip
returns-clause-round_trip c row can rest is = reads_back c.args.bytes.now c.decode_row.result c.decode_row.ensures.spelled c.decode_row.ensures.none row can rest is
