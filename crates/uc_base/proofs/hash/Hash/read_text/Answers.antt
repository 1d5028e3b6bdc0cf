use Rattle.uc_base.proofs.HashText.{text_back, text_decodes, decoded}
use Rattle.uc_base.specs.Hash.{IsHashText}
use Rattle.uc_base.proofs.hash.Hash.read_text.Goals as goal

pub unreachable-requires : goal.unreachable-requires
unreachable-requires c =
    let text : IsHashText c.args.digits.now = c.is_hash_text.ensures.0 c.if-not-is_hash_text.false in
    let bytes = text_decodes c.args.digits.now text.0 text.1 in
    let ok = decoded _ c.decode_to_slice.result _ bytes.0 c.decode_to_slice.ensures.value bytes.1 in
    let is = ok.0 in let err = c.in-Err.is in cc

pub returns-clause-value : goal.returns-clause-value
returns-clause-value c =
    let text : IsHashText c.args.digits.now = c.is_hash_text.ensures.0 c.if-not-is_hash_text.false in
    let bytes = text_decodes c.args.digits.now text.0 text.1 in
    let ok = decoded _ c.decode_to_slice.result _ bytes.0 c.decode_to_slice.ensures.value bytes.1 in
    text_back c.args.digits.now _ text.0 text.1 (rw ok.1 bytes.1)
